-- What the code changes in a session.
use Rattle.std.specs.Prelude.{◌≡◌, ◌⊎◌, ℕ, ◌≤◌, ◌<◌, List, length, take, true, Option, IfSome, ⊤}
use Rattle.std.specs.Option.{option_map_or}
use Rattle.std.specs.FinMap as map
use Rattle.tree_model.specs.Asked.{AreStats}
use Rattle.session_core.specs.declared.change.Change.{Change}
use Rattle.session_core.specs.declared.change.Change.TheVariants as changes
use Rattle.session_core.specs.State.{State, fid_limit, least_message, most_message, set, free}
use Rattle.session_core.specs.Slot.{placed}
use Rattle.session_core.specs.Outcome.{read_on}

-- the session after a change, for which bytes were read
abbrev pub changed : State → Change → List ℕ → State
changed s changes.Nothing bytes = s
changed s (changes.Version size) bytes = record { size = size; fids = map.empty }
changed s (changes.Set f place) bytes = set s f (placed place)
changed s (changes.Free f) bytes = free s f
changed s (changes.ReadOn f offset count) bytes =
    option_map_or (λ fid. set s f (read_on offset (take count bytes) fid)) (map.get s.fids f) s

-- there is room for a fid: it is in use, or one more can be
abbrev pub CanSet : State → ℕ → Type 0
CanSet s f = (map.contains_key s.fids f ≡ true) ⊎ (map.len s.fids < fid_limit)

-- a size is a good one, there is room for a fid, and what was read of a directory is whole stats
abbrev pub CanChange : State → Change → List ℕ → Type 0
CanChange s changes.Nothing bytes = ⊤
CanChange s (changes.Version size) bytes = IfSome size (λ n. (least_message ≤ n) × (n ≤ most_message))
CanChange s (changes.Set f place) bytes = CanSet s f
CanChange s (changes.Free f) bytes = ⊤
CanChange s (changes.ReadOn f offset count) bytes =
    (count ≤ length bytes) × IfSome (map.get s.fids f) (λ fid. fid.is_dir ≡ true → AreStats count (take count bytes))

-- the agreed size after a change
abbrev pub size_after : State → Change → Option ℕ
size_after s (changes.Version size) = size
size_after s change = s.size
