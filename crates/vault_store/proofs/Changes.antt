-- Changes of a node's attributes: what each plan comes to.
use Rattle.std.proofs.Common.{◌≡◌, ℕ, ◌-◌, ◌*◌, ◌∷◌, [], List, Bool, true, false, cond, Option, Some, None, Result, Ok, Err, IfOk, IfErr, IsSome, is_some, unwrap_or, refl, sym, ap, subst, ◌∙◌, arith, true≢false}
use Rattle.std.proofs.lemmas.Grind.{common_steps}
use Rattle.std.specs.Option.{option_map_or}
use Rattle.outside.specs.Calls.{Rose}
use Rattle.outside.specs.Disk.{Disk, Path as HostPath}
use Rattle.outside.specs.Images.{disk_in}
use Rattle.outside.specs.Views.{FolderView, EntropyView}
use Rattle.outside.proofs.Told.{told_always}
use Rattle.vault_keys.specs.Keys.{KeyPair}
use Rattle.tree_model.specs.declared.refusal.Refusal.{Refusal}
use Rattle.tree_model.specs.declared.refusal.Refusal.TheVariants as refusals
use Rattle.tree_model.specs.declared.reply.Reply.TheVariants as replies
use Rattle.tree_model.specs.Rows.{Content, Row, bad_size, chunks, damaged, content_length}
use Rattle.tree_model.specs.Asked.{PlainChange, change}
use Rattle.tree_model.specs.Step.{new_name, is_bad_size as is_bad_content}
use Rattle.tree_model.specs.History.{places}
use Rattle.clear_tree.specs.Walk.{Sealing}
use Rattle.tree_loading.specs.Format.{sealing_of}
use Rattle.live_tree.specs.Held.{HeldTree, live_row, live_rows, node_of, size_of}
use Rattle.file_chunks.specs.File.{is_bad_size, chunk_count}
use Rattle.tree_answers.specs.Answers.{is_own, length_by}
use Rattle.tree_answers.proofs.Rows.{row_there, some_is}
use Rattle.request_checks.specs.Plans.{HaveSizes, IsPlanned, IsPlannedIn, IsRefused}
use Rattle.request_checks.specs.declared.planning.Plan.{Plan}
use Rattle.request_checks.specs.declared.planning.Plan.TheVariants as plans
use Rattle.node_changes.specs.Changed.{IsLate, StandsOn, MayRefuse}
use Rattle.node_changes.specs.Causes.{IsUnchanged}
use Rattle.node_changes.specs.Placed.{taken_for}
use Rattle.node_changes.specs.Renaming.{IsRenaming}
use Rattle.vault_store.specs.Open.{running}
use Rattle.vault_store.specs.Quiet.{IsStill}
use Rattle.vault_store.specs.Sizes.{SizesAreHeld}
use Rattle.vault_store.proofs.Presence.{change_not_removed}
use Rattle.vault_store.proofs.Replies.{own_cause, own_may}
use Rattle.vault_store.proofs.Turns.{come_undrawn, refused_reply}

-- a decision's plan, and its refusal
ok_same : (p a : Plan) → ◌≡◌ {A = Result Plan Refusal} (Ok p) (Ok a) → p ≡ a
ok_same p a is = cc

err_same : (e a : Refusal) → ◌≡◌ {A = Result Plan Refusal} (Err e) (Err a) → e ≡ a
err_same e a is = cc

pub plan_at : (P : Plan → Type 0) (r : Result Plan Refusal) (a b : Plan) → r ≡ Ok a → a ≡ b → IfOk r P → P b
plan_at P (Ok p) a b is same holds = subst P (ok_same p a is ∙ same) holds
plan_at P (Err e) a b is same holds = absurd cc

pub refusal_at : (P : Refusal → Type 0) (r : Result Plan Refusal) (a : Refusal) → r ≡ Err a → IfErr r P → P a
refusal_at P (Ok p) a is holds = absurd cc
refusal_at P (Err e) a is holds = subst P (err_same e a is) holds

-- ---- contents by sizes, whatever the disk

sized : Option ℕ → Content
sized None = bad_size
sized (Some size) = cond (is_bad_size size) bad_size (chunks true (damaged (length_by size) ∷ []))

long_damaged : (n : ℕ) → content_length (chunks true (damaged n ∷ [])) ≡ n
long_damaged n = grind (arith, common_steps)

sized_long : (size : ℕ) → content_length (sized (Some size)) ≡ length_by size
unfolding sized
sized_long size = go (is_bad_size size) refl
  where
    go : (b : Bool) → is_bad_size size ≡ b → content_length (cond (is_bad_size size) bad_size (chunks true (damaged (length_by size) ∷ []))) ≡ length_by size
    go true is =
        ap (λ (b : Bool). content_length (cond b bad_size (chunks true (damaged (length_by size) ∷ [])))) is
        ∙ sym (ap (λ (o : Option ℕ). unwrap_or o 0) (ap (λ (b : Bool). cond b None (Some (size - 68 - 28 * chunk_count size))) is))
    go false is = ap (λ (b : Bool). content_length (cond b bad_size (chunks true (damaged (length_by size) ∷ [])))) is ∙ long_damaged (length_by size)

sized_bad : (size : ℕ) → is_bad_content (sized (Some size)) ≡ is_bad_size size
unfolding sized
sized_bad size = go (is_bad_size size)
  where
    go : (b : Bool) → is_bad_content (cond b bad_size (chunks true (damaged (length_by size) ∷ []))) ≡ b
    go true = refl
    go false = refl

sized_by : HeldTree → ℕ → Content
sized_by live number = sized (size_of live number)

sizes_there : (live : HeldTree) → HaveSizes live (sized_by live)
unfolding sized_by
sizes_there live = record {
  lengths = λ number size is. ap (λ (o : Option ℕ). content_length (sized o)) is ∙ sized_long size;
  bad = λ number size is. ap (λ (o : Option ℕ). is_bad_content (sized o)) is ∙ sized_bad size;
}

some_name : (row : Row) (c : PlainChange) (asked : List ℕ) → new_name row c ≡ Some asked → IsSome c.name
some_name row c asked is = go c.name refl
  where
    go : (o : Option (List ℕ)) → c.name ≡ o → IsSome c.name
    go None none = let no : ◌≡◌ {A = Option (List ℕ)} None (Some asked) = sym (ap (λ (o : Option (List ℕ)). new_name row (record c { name = o })) none) ∙ is in absurd cc
    go (Some name) some = ap is_some some

-- a change that gives another name asks for one
pub name_asked : (live : HeldTree) (number : ℕ) (c : PlainChange) (name : List ℕ) → IsPlanned live number c (plans.Rename name) → IsSome c.name
name_asked live number c name planned =
    let is : IsPlannedIn (live_rows (sized_by live) live) number c (plans.Rename name) = planned (sized_by live) (sizes_there live) in some_name is.row c is.fits.asked is.fits.named

-- what is planned isn't refused early
pub plan_late : (keys : KeyPair) (live : HeldTree) (claims : List (List ℕ × ℕ)) (number : ℕ) (c : PlainChange) → SizesAreHeld (sealing_of keys) → (plan : Plan) → IsPlanned live number c plan → (d : Disk) → IsLate (sealing_of keys) (change number c) d live claims
plan_late keys live claims number c sizes plan planned d contents stands = ap is_some (planned contents (sizes d live claims contents stands)).early

-- ---- another name

module _ (keys : KeyPair) (live : HeldTree) (claims : List (List ℕ × ℕ)) (number : ℕ) (c : PlainChange) (sizes : SizesAreHeld (sealing_of keys)) (name : List ℕ) (planned : IsPlanned live number c (plans.Rename name)) where
  pub is_renaming : IsRenaming (sealing_of keys) live claims number name c.modified c
  is_renaming d contents stands =
      let is : IsPlannedIn (live_rows contents live) number c (plans.Rename name) = planned contents (sizes d live claims contents stands) in
      record { row = is.row; there = is.there; none = is.early; asked = is.fits.asked; named = is.fits.named; clear = is.fits.clear; length = is.fits.long; dated = refl }

  pub asks_place : (d : Disk) (contents : ℕ → Content) → StandsOn (sealing_of keys) d live claims contents → places (live_rows contents live) (change number c) ≡ true
  asks_place d contents stands =
      let is : IsPlannedIn (live_rows contents live) number c (plans.Rename name) = planned contents (sizes d live claims contents stands) in
      ap (λ (o : Option Row). option_map_or (λ row. is_some (new_name row c)) o false) is.there ∙ ap is_some is.fits.named

-- ---- refusals

module _ (keys : KeyPair) (live : HeldTree) (claims : List (List ℕ × ℕ)) (entries : ℕ) (folder : FolderView) (source : EntropyView) (number : ℕ) (c : PlainChange) (second : ℕ) (buffer : List ℕ) where
  abbrev s : Sealing
  s = sealing_of keys

  abbrev path_on : Disk → Option HostPath
  path_on d = taken_for s d live (change number c) None

  unchanged_here : IsUnchanged live live claims claims folder.log folder.log
  unchanged_here = record { live = refl; claims = refl; log = refl }

  abbrev Replies : Refusal → Type 0
  Replies refusal = IsStill (running keys live claims entries) (running keys live claims entries) folder folder source source (change number c) second (replies.Refused refusal) buffer buffer

  reply_by : (refusal : Refusal) → is_own refusal ≡ true → ((d : Disk) → MayRefuse s (change number c) second (path_on d) refusal d live claims) → Replies refusal
  reply_by refusal own may =
      refused_reply keys keys live live claims claims entries folder folder source source (change number c) second None refusal buffer
      (come_undrawn keys keys folder folder source (change number c) refl (omega arith)) unchanged_here (own_cause (change number c) (Rose folder.faults folder.faults) (Rose source.faults source.faults) refusal own)
      (told_always (disk_in folder.log) _ (λ d contents stands path is. absurd (true≢false (sym own ∙ ap is_own is))))
      (told_always (disk_in folder.log) _ may)

  -- what the plan refuses
  pub plan_refused : SizesAreHeld (sealing_of keys) → (refusal : Refusal) → is_own refusal ≡ true → IsRefused live number c refusal → Replies refusal
  plan_refused sizes refusal own is =
      reply_by refusal own (λ d. own_may s (change number c) second (path_on d) refusal d live claims own (λ contents stands. is contents (sizes d live claims contents stands) second))

  -- lack of memory
  pub memory_refused : IsSome (node_of live number) → Replies refusals.OutOfMemory
  memory_refused there =
      let node = some_is (node_of live number) there in
      refused_reply keys keys live live claims claims entries folder folder source source (change number c) second None refusals.OutOfMemory buffer
      (come_undrawn keys keys folder folder source (change number c) refl (omega arith)) unchanged_here tt (told_always (disk_in folder.log) _ (λ d contents stands path is. absurd cc))
      (told_always (disk_in folder.log) _ (λ d contents stands. change_not_removed (live_rows contents live) number second c (live_row contents (number, node.0)) (row_there contents live number node.0 node.1)))
