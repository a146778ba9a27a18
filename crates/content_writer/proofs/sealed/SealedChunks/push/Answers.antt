use Rattle.std.proofs.Common.{◌≡◌, ◌+◌, ◌≤◌, ◌*◌, List, ℕ, length, take, sym, ap, subst, ◌∙◌, arith, length-take, length-drop}
use Rattle.std.proofs.lemmas.List.{take-take}
use Rattle.outside.specs.Calls.{Extends}
use Rattle.content_writer.specs.Sealed.{chunks_of}
use Rattle.content_writer.proofs.Pieces.{used-full, pushed_in}
use Rattle.content_writer.proofs.sealed.SealedChunks.push.Goals as goal

pub seal_chunk-requires-clause-room : goal.seal_chunk-requires-clause-room
seal_chunk-requires-clause-room g c =
    let room : length c.deref_mut.result.now ≡ 1180656 = c.deref_mut.ensures.len ∙ c.self.invariant.0 in
    let is : chunks_of 32796 (take c.self.inside.used c.deref_mut.result.now) ≡ c.args.self.now =
    ap (λ (xs : List ℕ). chunks_of 32796 (take c.self.inside.used xs)) c.deref_mut.ensures.value ∙ c.self.view_is in
    let used : c.self.inside.used ≡ 32796 * length c.args.self.now = used-full c.deref_mut.result.now c.self.inside.used c.args.self.now is room c.self.invariant.1 c.requires.full in
    simp (length-take, length-drop) (omega (arith, c.requires.room, c.requires.plaintext))

pub invariant_of-self-2 : goal.invariant_of-self-2
invariant_of-self-2 g c =
    let room : length c.deref_mut.result.now ≡ 1180656 = c.deref_mut.ensures.len ∙ c.self.invariant.0 in
    let is : chunks_of 32796 (take c.self.inside.used c.deref_mut.result.now) ≡ c.args.self.now =
    ap (λ (xs : List ℕ). chunks_of 32796 (take c.self.inside.used xs)) c.deref_mut.ensures.value ∙ c.self.view_is in
    let used : c.self.inside.used ≡ 32796 * length c.args.self.now = used-full c.deref_mut.result.now c.self.inside.used c.args.self.now is room c.self.invariant.1 c.requires.full in
    (c.self.invariant.0, omega (arith, c.requires.room, c.requires.plaintext))

pub returns-clause-pushed : goal.returns-clause-pushed
returns-clause-pushed g c =
    let room : length c.deref_mut.result.now ≡ 1180656 = c.deref_mut.ensures.len ∙ c.self.invariant.0 in
    let is : chunks_of 32796 (take c.self.inside.used c.deref_mut.result.now) ≡ c.args.self.now =
    ap (λ (xs : List ℕ). chunks_of 32796 (take c.self.inside.used xs)) c.deref_mut.ensures.value ∙ c.self.view_is in
    let used : c.self.inside.used ≡ 32796 * length c.args.self.now = used-full c.deref_mut.result.now c.self.inside.used c.args.self.now is room c.self.invariant.1 c.requires.full in
    let out : List ℕ = c.seal_chunk.new.out in
    let n : ℕ = length c.args.plaintext.now + 28 in
    let there : length c.args.plaintext.now + 28 ≤ length c.seal_chunk.new.out =
    rw c.seal_chunk.auto.out (simp (length-take, length-drop) (omega (arith, c.requires.room, c.requires.plaintext))) in
    record {
      sealed = take n out;
      pushed = pushed_in c.deref_mut.result.now c.self.inside.used c.args.self.now is room c.self.invariant.1 c.requires.full n c.self.inside.bytes.len out _ _ (omega arith) (omega (arith, c.requires.plaintext)) there
          (omega (arith, c.self.invariant.0, c.requires.room, c.requires.plaintext));
      is = record { opens = c.in_ok-seal_chunk.ensures.opens; long = omega (arith, length-take (length c.args.plaintext.now + 28) c.seal_chunk.new.out, there) };
      nonce = subst (λ (xs : List ℕ). Extends (g.E.Entropy.drawn c.args.entropy.now) (g.E.Entropy.drawn c.seal_chunk.new.entropy) xs)
          (sym (take-take 12 n out (omega arith))) c.in_ok-seal_chunk.ensures.drawn;
    }
