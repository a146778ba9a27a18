use Rattle.std.proofs.Common.{◌≡◌, ◌+◌, [], ◌∷◌, length, Bool, true, sym, subst, ◌∙◌}
use Rattle.std.specs.Result.{OnOk}
use Rattle.std.proofs.lemmas.Result.{on_ok_weaker}
use Rattle.host_calls.specs.Bytes.{Wrote, Cut}
use Rattle.host_calls.specs.Story.{writes}
use Rattle.host_calls.specs.Calls.{HasWritten, written}
use Rattle.mem_host.proofs.Writing.{written_twice}
use Rattle.mem_host.proofs.host.MemHost.write_whole.Goals as goal

pub returns-then-is_end-clause-done : goal.returns-then-is_end-clause-done
returns-then-is_end-clause-done c =
    let old = c.args.self.now.story in
    let at = c.args.at in
    let bytes = c.args.bytes.now in
    let seen = c.args.seen in
    let end : c.end_of-end.result ≡ at + length bytes = c.end_of-end.ensures in
    let wrote : c.write.new.self ≡ record c.args.self.now { story = writes seen (Wrote at bytes ∷ []) old } = c.in-Ok.ensures.ok in
    let both : writes seen (Cut c.end_of-end.result ∷ []) c.write.new.self.story ≡ writes seen (written at bytes true) old =
    (λ i. writes seen (Cut (end i) ∷ []) (wrote i).story) ∙ written_twice old seen (Cut (at + length bytes) ∷ []) (Wrote at bytes ∷ []) in
    subst (λ (b : Bool). OnOk c.cut_end.result (HasWritten c.args.path.now seen at (written at bytes b) old c.cut_end.new.self.story)) (sym c.if-is_end.true)
    (on_ok_weaker c.cut_end.result (λ e. record { file = c.requires; is = e ∙ both }) c.cut_end.ensures.done)
