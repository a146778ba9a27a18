use Rattle.std.proofs.Common.{◌∷◌, [], None, false, refl, arith, le_refl, length-append}
use Rattle.tree_model.specs.Asked.{plain_request, plain_reply, asked_of}
use Rattle.tree_model.specs.History.{Made, entry_of}
use Rattle.session_tests.proofs.counting.CountingSharedTree.serve.Goals as goal

pub returns-clause-entry : goal.returns-clause-entry
returns-clause-entry g c = λ rows origin history caller stands fits.
    let made : Made = record {
      asked = asked_of (plain_request c.args.request.now) c.args.now (plain_reply c.answer.result) c.args.buffer.now;
      drawn = None;
      folder = record { before = 0; after = 0 };
      entropy = record { before = g.E.Entropy.faults c.args.entropy.now; after = g.E.Entropy.faults c.args.entropy.now };
      commit_failed = false;
      taken = None;
      stable = 0;
      moment = 0;
    }
    in
    let more = length-append history (entry_of caller made ∷ []) in
    let added = c.saturating_add-self.ensures in (
      made,
      record { same = refl; source = record { low = le_refl _; high = le_refl _; drawn = refl } },
      omega arith,
    )
