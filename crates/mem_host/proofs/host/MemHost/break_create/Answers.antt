use Rattle.std.proofs.Common.{◌≡◌, ℕ, List, length, Result, Ok, Err, sym, subst, ap, inl, inr}
use Rattle.std.proofs.Math.Seq.{take-length}
use Rattle.std.specs.Result.{OnOk, OnErr}
use Rattle.outside.specs.Disk.{Path}
use Rattle.host_calls.specs.Story.{Story}
use Rattle.host_calls.specs.Calls.{HasCreated, MayHaveCreated}
use Rattle.mem_host.specs.Holding.{Holding}
use Rattle.mem_host.proofs.host.MemHost.break_create.Goals as goal

may_have_created : {T E : Type 0} (r : Result T E) (path : Path) (bytes : List ℕ) (old new : Story) → OnOk r (HasCreated path bytes old new) → OnErr r (new ≡ old) → MayHaveCreated path bytes old new
may_have_created (Ok x) path bytes old new ok err = inr (length bytes, subst (λ (l : List ℕ). HasCreated path l old new) (sym (take-length bytes)) ok)
may_have_created (Err e) path bytes old new ok err = inl err

same_story : {T E : Type 0} (r : Result T E) (new old : Holding) → OnErr r (new ≡ old) → OnErr r (new.story ≡ old.story)
same_story (Ok x) new old h = h
same_story (Err e) new old h = ap (λ (a : Holding). a.story) h

pub returns-in-All-clause-broken : goal.returns-in-All-clause-broken
returns-in-All-clause-broken c =
    may_have_created c.create_file-in-All.result c.args.path c.args.bytes.now c.args.self.now.story c.create_file-in-All.new.self.story c.create_file-in-All.ensures.ok
    (same_story c.create_file-in-All.result c.create_file-in-All.new.self c.args.self.now c.create_file-in-All.ensures.err)
