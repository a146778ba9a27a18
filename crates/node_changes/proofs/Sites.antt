-- The site of a new node, and what refuses it one.
use Rattle.std.proofs.Common.{◌≡◌, ◌≢◌, ◌<◌, ◌^◌, ◌-◌, ℕ, Bool, true, false, ◌||◌, cond, List, Option, Some, None, IfSome, IfNone, is_some, Result, Ok, Err, length, nat_le, refl, sym, ap, ◌∙◌, inl, inr, ◌⊎◌, arith}
use Rattle.std.proofs.lemmas.Bool.{cond-true, cond-false}
use Rattle.std.proofs.lemmas.Bool.Decides.{nat_tests}
use Rattle.std.proofs.lemmas.Slice.Eq.{bytes_eq-Decides}
use Rattle.std.specs.Option.{option_map, option_map_or}
use Rattle.std.specs.Str.{is_utf8}
use Rattle.nfc_text.specs.Nfc.{nfc_of}
use Rattle.tree_model.specs.declared.refusal.Refusal.TheVariants as refusals
use Rattle.tree_model.specs.declared.stat.Qid.{Qid}
use Rattle.tree_model.specs.Names.{NameFault, not_utf8, empty, dots, forbidden, too_long, form_fault, checked_name, clear_name}
use Rattle.tree_model.specs.Rows.{Content, bad_size, Row, Rows, is_dir, row_of}
use Rattle.tree_model.specs.Asked.{create, qid, refused}
use Rattle.tree_model.specs.Step.{Answer, Stepped, stepped, says, refuses, step, name_refusal, raw_name_refusal, create_refusal, create_named, is_full, node_limit}
use Rattle.tree_model.proofs.Steps.{step_removed, step_refused, step_worked}
use Rattle.vault_names.specs.Faults.{IsFault}
use Rattle.vault_names.specs.declared.name.BadName.{BadName}
use Rattle.vault_names.specs.declared.name.BadName.TheVariants.{NotUtf8, Empty, Dots, Forbidden, TooLong, Memory}
use Rattle.clear_tree.specs.Walk.{Sealing, is_name}
use Rattle.clear_tree.specs.Kept.{What, KeptFile, KeptLink, KeptDir, KeptBad, kind_of, folder_in}
use Rattle.tree_loading.specs.Ciphers.{AreCiphers}
use Rattle.live_tree.specs.Held.{HeldNode, HeldTree, node_of, live_row, live_rows, IsFree, IsNamed, IsTree}
use Rattle.live_tree.specs.Changes.{count_limit}
use Rattle.live_tree.proofs.Rows.{row_is}
use Rattle.live_tree_laws.proofs.Numbers.{nodes_have_rows}
use Rattle.node_changes.specs.Placed.{identifier_in}
use Rattle.node_changes.specs.Creating.{IsSiteRefusal, name_fault_refusal}
use Rattle.node_changes.proofs.Creations.{free_child, named_child, bad_name_step, there_already_step, full_step}

-- ---- names

raw_by : (text : Bool) (fault : Option NameFault) (rest : Result (List ℕ) NameFault) → (cond text (option_map name_refusal fault) (Some refusals.BadName) ≡ None)
    ⊎ ((f : NameFault) × (cond text (option_map name_refusal fault) (Some refusals.BadName) ≡ Some (name_refusal f)) × (cond text (option_map_or (λ z. Err z) fault rest) (Err not_utf8) ≡ Err f))
raw_by false fault rest = inr (not_utf8, refl, refl)
raw_by true None rest = inl refl
raw_by true (Some f) rest = inr (f, refl, refl)

-- what the bytes alone refuse is what refuses them as a clear name
raw_faults : (name : List ℕ) → (raw_name_refusal name ≡ None) ⊎ ((f : NameFault) × (raw_name_refusal name ≡ Some (name_refusal f)) × (clear_name name ≡ Err f))
unfolding clear_name
raw_faults name = raw_by (is_utf8 name) (form_fault name) (checked_name (nfc_of name))

pub named_raw : (name n : List ℕ) → clear_name name ≡ Ok n → raw_name_refusal name ≡ None
named_raw name n clear = go (raw_faults name)
  where
    go : (raw_name_refusal name ≡ None) ⊎ ((f : NameFault) × (raw_name_refusal name ≡ Some (name_refusal f)) × (clear_name name ≡ Err f)) → raw_name_refusal name ≡ None
    go (inl none) = none
    go (inr f) = let both : ◌≡◌ {A = Result (List ℕ) NameFault} (Ok n) (Err f.0) = sym clear ∙ f.2 in absurd cc

fault_other : (fault : NameFault) → refuses (name_refusal fault) ≡ refuses refusals.Removed → ⊥
fault_other not_utf8 e = let w : refused refusals.BadName ≡ refused refusals.Removed = ap (λ (a : Answer). a.reply) e in cc
fault_other empty e = let w : refused refusals.BadName ≡ refused refusals.Removed = ap (λ (a : Answer). a.reply) e in cc
fault_other dots e = let w : refused refusals.BadName ≡ refused refusals.Removed = ap (λ (a : Answer). a.reply) e in cc
fault_other forbidden e = let w : refused refusals.BadName ≡ refused refusals.Removed = ap (λ (a : Answer). a.reply) e in cc
fault_other (too_long n) e = let w : refused refusals.NameTooLong ≡ refused refusals.Removed = ap (λ (a : Answer). a.reply) e in cc

choice_other : (there full : Bool) (rows made : Rows) (q : Qid)
    → (cond there (stepped rows (refuses refusals.FileExists)) (cond full (stepped rows (refuses refusals.VaultFull)) (stepped made (says (qid q))))).answer ≡ refuses refusals.Removed → ⊥
choice_other true full rows made q e = let w : refused refusals.FileExists ≡ refused refusals.Removed = ap (λ (a : Answer). a.reply) e in cc
choice_other false true rows made q e = let w : refused refusals.VaultFull ≡ refused refusals.Removed = ap (λ (a : Answer). a.reply) e in cc
choice_other false false rows made q e = let w : qid q ≡ refused refusals.Removed = ap (λ (a : Answer). a.reply) e in cc

-- ---- the step, by the row of the directory

module _ (rows : Rows) (row : Row) (number : ℕ) (name : List ℕ) (is_directory : Bool) (mode second : ℕ) (found : row_of rows number ≡ Some row) where
  no_directory_step : is_dir row.kind ≡ false → (step rows (create number name is_directory mode) second).answer ≡ refuses refusals.NotADirectory
  no_directory_step other =
      ap (λ (w : Stepped). w.answer) (step_refused rows (create number name is_directory mode) second row refusals.NotADirectory found
      (cond-false (is_dir row.kind) (raw_name_refusal name) (Some refusals.NotADirectory) other))

  module _ (dir : is_dir row.kind ≡ true) where
    pub early_is : create_refusal row.kind name ≡ raw_name_refusal name
    early_is = cond-true (is_dir row.kind) (raw_name_refusal name) (Some refusals.NotADirectory) dir

    fault_step : (fault : NameFault) → clear_name name ≡ Err fault → (step rows (create number name is_directory mode) second).answer ≡ refuses (name_refusal fault)
    fault_step fault clear = go (raw_faults name)
      where
        go : (raw_name_refusal name ≡ None) ⊎ ((f : NameFault) × (raw_name_refusal name ≡ Some (name_refusal f)) × (clear_name name ≡ Err f))
            → (step rows (create number name is_directory mode) second).answer ≡ refuses (name_refusal fault)
        go (inl none) = bad_name_step rows row number name name is_directory mode second found (early_is ∙ none) fault clear
        go (inr f) =
            let both : ◌≡◌ {A = Result (List ℕ) NameFault} (Err f.0) (Err fault) = sym f.2 ∙ clear in
            let same : f.0 ≡ fault = cc in
            ap (λ (w : Stepped). w.answer) (step_refused rows (create number name is_directory mode) second row (name_refusal f.0) found (early_is ∙ f.1)) ∙ ap (λ (z : NameFault). refuses (name_refusal z)) same

    -- a directory that is there is never answered to be removed
    never_removed : (step rows (create number name is_directory mode) second).answer ≢ refuses refusals.Removed
    never_removed e = go (clear_name name) refl
      where
        go : (r : Result (List ℕ) NameFault) → clear_name name ≡ r → ⊥
        go (Err fault) clear = fault_other fault (sym (fault_step fault clear) ∙ e)
        go (Ok n) clear =
            choice_other _ (is_full rows) rows _ _ (sym (ap (λ (w : Stepped). w.answer)
            (step_worked rows (create number name is_directory mode) second row found (early_is ∙ named_raw name n clear)
            ∙ ap (λ (z : Result (List ℕ) NameFault). create_named rows row z is_directory second) clear)) ∙ e)

-- ---- by what is held

module _ (live : HeldTree) (parent : ℕ) (name : List ℕ) where
  pub absent_refused : node_of live parent ≡ None → IsSiteRefusal live parent name refusals.Removed
  absent_refused none contents is_directory mode second =
      ap (λ (w : Stepped). w.answer) (step_removed (live_rows contents live) (create parent name is_directory mode) second
      (row_is contents live parent ∙ ap (option_map (λ (node : HeldNode). live_row contents (parent, node))) none))

  module _ (held : HeldNode) (there : node_of live parent ≡ Some held) where
    found : (contents : ℕ → Content) → row_of (live_rows contents live) parent ≡ Some (live_row contents (parent, held))
    found contents = nodes_have_rows live contents parent held there

    pub other_refused : is_dir (kind_of held.kept.what) ≡ false → IsSiteRefusal live parent name refusals.NotADirectory
    other_refused other contents is_directory mode second =
        no_directory_step (live_rows contents live) (live_row contents (parent, held)) parent name is_directory mode second (found contents) other

    module _ (dir : is_dir (kind_of held.kept.what) ≡ true) where
      by_fault : (fault : NameFault) → clear_name name ≡ Err fault → (contents : ℕ → Content) (is_directory : Bool) (mode second : ℕ)
          → (step (live_rows contents live) (create parent name is_directory mode) second).answer ≡ refuses (name_refusal fault)
      by_fault fault clear contents is_directory mode second =
          fault_step (live_rows contents live) (live_row contents (parent, held)) parent name is_directory mode second (found contents) dir fault clear

      pub lacks_memory : IsSiteRefusal live parent name refusals.OutOfMemory
      lacks_memory contents is_directory mode second =
          never_removed (live_rows contents live) (live_row contents (parent, held)) parent name is_directory mode second (found contents) dir

      pub fault_refused : (e : BadName) → IsFault e (clear_name name) → IsSiteRefusal live parent name (name_fault_refusal e)
      fault_refused NotUtf8 is = by_fault not_utf8 is
      fault_refused Empty is = by_fault empty is
      fault_refused Dots is = by_fault dots is
      fault_refused Forbidden is = by_fault forbidden is
      fault_refused (TooLong n) is = by_fault (too_long n) is
      fault_refused Memory is = lacks_memory

      module _ (is : IsTree live) (n : List ℕ) (clear : clear_name name ≡ Ok n) where
        early : create_refusal (kind_of held.kept.what) name ≡ None
        early = cond-true (is_dir (kind_of held.kept.what)) (raw_name_refusal name) (Some refusals.NotADirectory) dir ∙ named_raw name n clear

        pub exists_refused : (number : ℕ) → IsNamed live parent n number → IsSiteRefusal live parent name refusals.FileExists
        exists_refused number named contents is_directory mode second =
            there_already_step (live_rows contents live) (live_row contents (parent, held)) parent name n is_directory mode second (found contents) early clear
            (named_child live is contents parent n number named)

        pub full_refused : IsFree live parent n → ((contents : ℕ → Content) → is_full (live_rows contents live) ≡ true) → IsSiteRefusal live parent name refusals.VaultFull
        full_refused free full contents is_directory mode second =
            full_step (live_rows contents live) (live_row contents (parent, held)) parent name n is_directory mode second (found contents) early clear
            (free_child live is contents parent n free) (full contents)

-- ---- what is looked for

pub some_found : (o : Option ℕ) (P : ℕ → Type 0) → IfSome o P → is_some o ≡ true → (number : ℕ) × P number
some_found None P h e = absurd cc
some_found (Some number) P h e = (number, h)

pub none_found : (o : Option ℕ) (P : Type 0) → IfNone o P → is_some o ≡ false → P
none_found None P h e = h
none_found (Some number) P h e = absurd cc

-- ---- what a directory is

pub no_identifier : (what : What) → identifier_in what ≡ None → is_dir (kind_of what) ≡ false
no_identifier (KeptFile size) e = refl
no_identifier (KeptLink size) e = refl
no_identifier (KeptDir identifier folder) e = absurd cc
no_identifier (KeptBad text) e = refl

pub no_folder : (what : What) → folder_in what ≡ None → is_dir (kind_of what) ≡ false
no_folder (KeptFile size) e = refl
no_folder (KeptLink size) e = refl
no_folder (KeptDir identifier folder) e = absurd cc
no_folder (KeptBad text) e = refl

pub directory_is : (what : What) (identifier folder : List ℕ) → identifier_in what ≡ Some identifier → folder_in what ≡ Some folder → what ≡ KeptDir identifier folder
directory_is (KeptFile size) i f e h = absurd cc
directory_is (KeptLink size) i f e h = absurd cc
directory_is (KeptDir identifier folder) i f e h = cc
directory_is (KeptBad text) i f e h = absurd cc

pub kind_is : (what : What) (identifier : List ℕ) → identifier_in what ≡ Some identifier → is_dir (kind_of what) ≡ true
kind_is (KeptFile size) i e = absurd cc
kind_is (KeptLink size) i e = absurd cc
kind_is (KeptDir identifier folder) i e = refl
kind_is (KeptBad text) i e = absurd cc

-- ---- a name that opens to itself, and room

pub opens_itself : (n : List ℕ) (o : Option (List ℕ)) → is_name n o ≡ true → o ≡ Some n
opens_itself n None e = absurd cc
opens_itself n (Some m) e = ap Some ((bytes_eq-Decides m n).0 e)

pub text_fits : (s : Sealing) → AreCiphers s → (i n text : List ℕ) → text ≡ s.seal i n → is_name n (s.open_name i (s.seal i n)) ≡ true → length text < 2 ^ 32
text_fits s ciphers i n text is named =
    let few = ciphers.short i n (opens_itself n (s.open_name i (s.seal i n)) named) in
    let same : length text ≡ length (s.seal i n) = ap (λ (t : List ℕ). length t) is in
    omega (arith, few, same)

or_true : (a : Bool) → (a || true) ≡ true
or_true true = refl
or_true false = refl

pub has_room : (live : HeldTree) → ((contents : ℕ → Content) → is_full (live_rows contents live) ≡ false) → live.next < count_limit
has_room live room = go (nat_le (2 ^ 64 - 1) live.next) refl
  where
    contents : ℕ → Content
    contents n = bad_size

    go : (b : Bool) → nat_le (2 ^ 64 - 1) live.next ≡ b → live.next < count_limit
    go false e = grind (arith, nat_tests)
    go true e =
        let full : is_full (live_rows contents live) ≡ true = ap (λ (b : Bool). nat_le node_limit (length (live_rows contents live).nodes) || b) e ∙ or_true (nat_le node_limit (length (live_rows contents live).nodes)) in
        let both : true ≡ false = sym full ∙ room contents in
        absurd cc
