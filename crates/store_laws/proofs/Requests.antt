-- The place that is taken for a request, if no row is marked.
use Rattle.std.proofs.Common.{◌≡◌, ℕ, Bool, true, false, List, [], ◌∷◌, map, Option, Some, IsSome, sym, ap, ◌∙◌, subst, inl, inr, ◌⊎◌}
use Rattle.std.specs.Option.{option_and_then}
use Rattle.outside.specs.Disk.{Disk, Path as HostPath}
use Rattle.pending_files.specs.Laid.{LookAlike}
use Rattle.vault_keys.specs.Keys.{KeyPair}
use Rattle.tree_model.specs.Rows.{Content, Row, Rows, is_dir}
use Rattle.tree_model.specs.Asked.{PlainChange, PlainRequest, look, walk, open_node, create, read, list, write, remove, stat_of, change, sync}
use Rattle.tree_model.specs.Step.{Answer, step}
use Rattle.tree_model.specs.History.{MayDraw, is_refusal, places}
use Rattle.version_laws.specs.RowVersions.{wrapped_row, wrapped}
use Rattle.version_laws.proofs.Histories.{places_are_same}
use Rattle.version_laws.proofs.Steps.{steps_are_same}
use Rattle.clear_tree.specs.Walk.{Sealing}
use Rattle.clear_tree.specs.Kept.{What, kind_of}
use Rattle.vault_names.proofs.Opening.{and_then_some}
use Rattle.tree_loading.specs.Format.{sealing_of}
use Rattle.tree_deed_laws.specs.Taken.{taken_by_identifier}
use Rattle.live_tree.specs.Held.{HeldNode, HeldTree, node_of, live_rows, IsFree}
use Rattle.name_places.specs.Claims.{claims_in}
use Rattle.node_changes.specs.Changed.{StandsOn}
use Rattle.node_changes.specs.Placed.{parent_at, taken_for, taken_in}
use Rattle.store_laws.specs.Places.{AreUnmarked, IsAnothersPlace, IsIdentifiersPlace, IsRenamed, MayBeTaken, PlacesAreAnothers}
use Rattle.store_laws.proofs.Accepted.{free_to_create, free_to_rename}
use Rattle.store_laws.proofs.Sites.{IsSite, at_site, drawn_one, site}
use Rattle.store_laws.proofs.Unmarked.{AllUnmarked, map_stays}

module _ (keys : KeyPair) (disk later : Disk) (alike : LookAlike disk later) (live : HeldTree) (claims : List (List ℕ × ℕ)) (contents : ℕ → Content) (stands : StandsOn (sealing_of keys) later live claims contents)
    (unmarked : AreUnmarked (live_rows contents live)) where
  abbrev s : Sealing
  s = sealing_of keys

  for_create : (n : ℕ) (name : List ℕ) (is_directory : Bool) (mode second : ℕ) (drawn : Option (List ℕ)) (path : HostPath) → taken_in (sealing_of keys) disk live n name drawn ≡ Some path
      → is_refusal (step (live_rows contents live) (create n name is_directory mode) second).answer.reply ≡ false → (IsSome drawn → is_directory ≡ true)
      → IsAnothersPlace (sealing_of keys) live n name path ⊎ ((is_directory ≡ true) × IsIdentifiersPlace (sealing_of keys) disk live drawn path)
  for_create n name is_directory mode second drawn path h accepted may = go (at_site keys disk later alike live claims contents stands unmarked n name drawn path it free)
    where
      it : IsSite s disk live n name drawn path
      it = site s disk live n name drawn path h

      free : IsFree live n it.clear
      free = free_to_create live contents stands.holds.is_tree n second it.held it.there name it.clear is_directory mode (ap (λ (w : What). is_dir (kind_of w)) it.dir) it.clear_is accepted

      go : IsAnothersPlace s live n name path ⊎ (taken_by_identifier s disk (claims_in s live) drawn ≡ Some path) → IsAnothersPlace s live n name path ⊎ ((is_directory ≡ true) × IsIdentifiersPlace s disk live drawn path)
      go (inl other) = inl other
      go (inr drew) = let one = drawn_one s disk live drawn path drew in inr (may one, (one, drew))

  for_change : (n : ℕ) (c : PlainChange) (second : ℕ) (drawn : Option (List ℕ)) (path : HostPath) → taken_for (sealing_of keys) disk live (change n c) drawn ≡ Some path
      → places (live_rows contents live) (change n c) ≡ true → is_refusal (step (live_rows contents live) (change n c) second).answer.reply ≡ false → (IsSome drawn → ⊥)
      → IsRenamed (sealing_of keys) live n c.name path
  for_change n c second drawn path h placed accepted may = go (at_site keys disk later alike live claims contents stands unmarked parent.0 name.0 drawn path it free)
    where
      name : (m : List ℕ) × (c.name ≡ Some m) × (option_and_then (λ p. taken_in s disk live p m drawn) (parent_at live n) ≡ Some path)
      name = and_then_some (λ m. option_and_then (λ p. taken_in s disk live p m drawn) (parent_at live n)) c.name path h

      parent : (p : ℕ) × (parent_at live n ≡ Some p) × (taken_in s disk live p name.0 drawn ≡ Some path)
      parent = and_then_some (λ p. taken_in s disk live p name.0 drawn) (parent_at live n) path name.2

      node : (held : HeldNode) × (node_of live n ≡ Some held) × (◌≡◌ {A = Option ℕ} (Some held.kept.parent) (Some parent.0))
      node = and_then_some (λ (held : HeldNode). Some held.kept.parent) (node_of live n) parent.0 parent.1

      it : IsSite s disk live parent.0 name.0 drawn path
      it = site s disk live parent.0 name.0 drawn path parent.2

      free : IsFree live parent.0 it.clear
      free =
          let up : node.0.kept.parent ≡ parent.0 = cc node.2 in
          subst (λ (p : ℕ). IsFree live p it.clear) up (free_to_rename live contents stands.holds.is_tree n second node.0 node.1 c name.0 it.clear name.1 it.clear_is placed accepted)

      go : IsAnothersPlace s live parent.0 name.0 path ⊎ (taken_by_identifier s disk (claims_in s live) drawn ≡ Some path) → IsRenamed s live n c.name path
      go (inl other) = record { name = name.0; asked_is = name.1; parent = parent.0; parent_is = parent.1; anothers = other }
      go (inr drew) = absurd (may (drawn_one s disk live drawn path drew))

  pub for_request : (request : PlainRequest) (second : ℕ) (drawn : Option (List ℕ)) (path : HostPath) → taken_for (sealing_of keys) disk live request drawn ≡ Some path
      → places (live_rows contents live) request ≡ true → is_refusal (step (live_rows contents live) request second).answer.reply ≡ false → (IsSome drawn → MayDraw request)
      → MayBeTaken (sealing_of keys) disk live request drawn path
  for_request (look n) second drawn path h placed accepted may = absurd cc
  for_request (walk n names) second drawn path h placed accepted may = absurd cc
  for_request (open_node n mode) second drawn path h placed accepted may = absurd cc
  for_request (create n name is_directory mode) second drawn path h placed accepted may = for_create n name is_directory mode second drawn path h accepted may
  for_request (read n at most) second drawn path h placed accepted may = absurd cc
  for_request (list n after most) second drawn path h placed accepted may = absurd cc
  for_request (write n at bytes) second drawn path h placed accepted may = absurd cc
  for_request (remove n) second drawn path h placed accepted may = absurd cc
  for_request (stat_of n) second drawn path h placed accepted may = absurd cc
  for_request (change n c) second drawn path h placed accepted may = for_change n c second drawn path h placed accepted may
  for_request (sync n) second drawn path h placed accepted may = absurd cc

-- ---- rows that are the same but for versions

wrapped_unmarked : (rows : List Row) → AllUnmarked (map wrapped_row rows) → AllUnmarked rows
wrapped_unmarked [] all = tt
wrapped_unmarked (row ∷ rows) all = (all.0, wrapped_unmarked rows all.1)

unmarked_too : (a b : Rows) → wrapped a ≡ wrapped b → AreUnmarked a → AreUnmarked b
unmarked_too a b same all = wrapped_unmarked b.nodes (subst AreUnmarked same (map_stays wrapped_row (λ row h. h) a.nodes all))

pub places_are_anothers : PlacesAreAnothers
places_are_anothers keys disk rows made placed taken all may =
    let its : Rows = live_rows placed.contents placed.live in
    let same = steps_are_same rows its made.asked.request made.asked.second placed.current in
    for_request keys disk placed.later placed.alike placed.live placed.claims placed.contents placed.stands (unmarked_too rows its placed.current all) made.asked.request made.asked.second made.drawn taken.path
    (sym placed.taken ∙ taken.taken) (sym (places_are_same rows its made.asked.request placed.current) ∙ taken.places) (ap (λ (a : Answer). is_refusal a.reply) (sym same.answer) ∙ taken.accepted) may
