-- How many entries no stop undoes once an entry has ended.
use Rattle.std.proofs.Common.{◌≡◌, ℕ, suc, ◌≤◌, Bool, true, false, cond, not, ◌&&◌, refl, sym, ap, ◌∙◌, arith}
use Rattle.std.proofs.lemmas.Bool.{true≢false}
use Rattle.tree_model.specs.Asked.{PlainRequest, PlainReply}
use Rattle.tree_model.specs.History.{is_refusal}
use Rattle.crash_laws.specs.Stable.{is_kept, stable_then, IsStableNext}

by_kept : (request : PlainRequest) (reply : PlainReply) (last base count : ℕ) (kept : Bool) → is_kept request reply ≡ kept → last ≤ base → base ≤ count
    → IsStableNext request reply last base count (cond kept (suc count) last)
by_kept request reply last base count true is low high = record {
  since = omega (arith, low, high);
  within = omega arith;
  kept = λ stable accepted. refl;
  held = λ no. absurd (true≢false (sym is ∙ no));
}
by_kept request reply last base count false is low high = record {
  since = omega arith;
  within = omega (arith, low, high);
  kept = λ stable accepted. absurd (true≢false (sym (ap (λ (b : Bool). b && not (is_refusal reply)) stable ∙ ap not accepted) ∙ is));
  held = λ no. low;
}

pub stable_next : (request : PlainRequest) (reply : PlainReply) (last base count : ℕ) → last ≤ base → base ≤ count
    → IsStableNext request reply last base count (stable_then request reply last (suc count))
stable_next request reply last base count low high = by_kept request reply last base count (is_kept request reply) refl low high
