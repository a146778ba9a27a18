-- How many entries no stop undoes, as it is written into an entry.
use Rattle.std.specs.Prelude.{◌≡◌, ℕ, suc, ◌≤◌, Bool, true, false, ◌&&◌, not, if◌then◌else◌}
use Rattle.tree_model.specs.Asked.{PlainRequest, PlainReply}
use Rattle.tree_model.specs.History.{is_refusal, is_stable}

-- the request is one that no stop undoes once it is answered, and isn't refused
abbrev pub is_kept : PlainRequest → PlainReply → Bool
is_kept request reply = is_stable request && not (is_refusal reply)

-- all entries up to this one, or as many as before
abbrev pub stable_then : PlainRequest → PlainReply → ℕ → ℕ → ℕ
stable_then request reply last count = if is_kept request reply then count else last

-- it is no lower than the last one and no higher than the number of entries with this one; if the request is to be held it is all of
-- these, and else no higher than what is on the disk
pub record IsStableNext (request : PlainRequest) (reply : PlainReply) (last base count stable : ℕ) : Type 0 where
  pub since : last ≤ stable
  pub within : stable ≤ suc count
  pub kept : is_stable request ≡ true → is_refusal reply ≡ false → stable ≡ suc count
  pub held : is_kept request reply ≡ false → stable ≤ base
