-- A vault's folder from stage to stage.
use Rattle.std.proofs.Common.{◌≡◌, ◌≢◌, ℕ, ◌<◌, lit<, List, [], ◌∷◌, ◌++◌, get_or, Option, Some, None, IsSome, refl, sym, ap, subst, ◌∙◌, inl, arith}
use Rattle.std.specs.Option.{is_some}
use Rattle.vault_layout.specs.Names.{new_vault_file, vault_file}
use Rattle.outside.specs.Disk.{Disk, Path, Node, folder, file, node_at, parent, IsTree}
use Rattle.outside.specs.Changes.{MakeDir, Move, Put, CanDo, done, set_at}
use Rattle.outside.proofs.Paths.{by_path, set_here, set_there}
use Rattle.unlocking.specs.Files.{masterkey_place, config_place, new_config_place}
use Rattle.vault_make.specs.Vault.{top_name, IsEmpty}
use Rattle.vault_make.specs.Stages.{HasBareRoot, HasRoot, HasKeyFiles, IsLaidOut}

none_of : (o : Option Node) → (IsSome o → o ≡ None) → o ≡ None
none_of None h = refl
none_of (Some node) h = h (cc)

-- nothing is below nothing
none_below : (d : Disk) (p : Path) → IsTree d → node_at d (parent p) ≡ None → node_at d p ≡ None
none_below d p tree none = none_of (node_at d p) (λ some. let f : Some folder ≡ None = sym (tree.parents p some) ∙ none in absurd cc)

-- ---- the folders

abbrev pub top : Path
top = top_name ∷ []

abbrev pub middle : List ℕ → Path
middle a = top_name ∷ a ∷ []

abbrev pub bottom : List ℕ → List ℕ → Path
bottom a b = top_name ∷ a ∷ b ∷ []

abbrev pub with_top : Disk → Disk
with_top d = done (MakeDir top) d

abbrev pub with_middle : List ℕ → Disk → Disk
with_middle a d = done (MakeDir (middle a)) (with_top d)

abbrev pub with_bottom : List ℕ → List ℕ → Disk → Disk
with_bottom a b d = done (MakeDir (bottom a b)) (with_middle a d)

bare_top : (d : Disk) → IsEmpty d → node_at d top ≡ None
bare_top d empty = empty.bare top_name

bare_middle : (d : Disk) (a : List ℕ) → IsEmpty d → node_at d (middle a) ≡ None
bare_middle d a empty = none_below d (middle a) empty.tree (bare_top d empty)

bare_bottom : (d : Disk) (a b : List ℕ) → IsEmpty d → node_at d (bottom a b) ≡ None
bare_bottom d a b empty = none_below d (bottom a b) empty.tree (bare_middle d a empty)

bare_below : (d : Disk) (a b name : List ℕ) → IsEmpty d → node_at d (bottom a b ++ name ∷ []) ≡ None
bare_below d a b name empty = none_below d (bottom a b ++ name ∷ []) empty.tree (bare_bottom d a b empty)

pub can_middle : (d : Disk) (a : List ℕ) → IsEmpty d → CanDo (MakeDir (middle a)) (with_top d)
can_middle d a empty = record {
  inside = set_here d top (Some folder) top refl;
  free = inl (ap is_some (set_there d top (Some folder) (middle a) (λ e. cc) ∙ bare_middle d a empty));
}

pub can_bottom : (d : Disk) (a b : List ℕ) → IsEmpty d → CanDo (MakeDir (bottom a b)) (with_middle a d)
can_bottom d a b empty = record {
  inside = set_here (with_top d) (middle a) (Some folder) (middle a) refl;
  free = inl (ap is_some (set_there (with_top d) (middle a) (Some folder) (bottom a b) (λ e. cc) ∙ set_there d top (Some folder) (bottom a b) (λ e. cc) ∙ bare_bottom d a b empty));
}

-- elsewhere than at the three folders nothing changed
beside : (d : Disk) (a b : List ℕ) (q : Path) → q ≢ top → q ≢ middle a → q ≢ bottom a b → node_at (with_bottom a b d) q ≡ node_at d q
beside d a b q t m r =
    set_there (with_middle a d) (bottom a b) (Some folder) q r ∙ set_there (with_top d) (middle a) (Some folder) q m ∙ set_there d top (Some folder) q t

pub has_root : (d : Disk) (a b : List ℕ) → IsEmpty d → HasRoot (bottom a b) (with_bottom a b d)
has_root d a b empty = record {
  root = record {
    path = (a, b, refl);
    top = beside d a b [] (λ e. cc) (λ e. cc) (λ e. cc) ∙ empty.tree.top;
    there = set_here (with_middle a d) (bottom a b) (Some folder) (bottom a b) refl;
    bare = λ name. beside d a b (bottom a b ++ name ∷ []) (λ e. cc) (λ e. cc) (λ e. cc) ∙ bare_below d a b name empty;
  };
  free = λ name other. beside d a b (name ∷ []) (λ e. other cc) (λ e. cc) (λ e. cc) ∙ empty.bare name;
}

-- ---- what is elsewhere stays

-- the root stays if something is put elsewhere, at the top
root_stays : (d : Disk) (place : Path) (name : List ℕ) (v : Option Node) → HasBareRoot place d → HasBareRoot place (set_at d (name ∷ []) v)
root_stays d place name v root =
    let is = root.path.2 in
    subst (λ (p : Path). HasBareRoot p (set_at d (name ∷ []) v)) (sym is)
    (let old = subst (λ (p : Path). HasBareRoot p d) is root in record {
      path = (root.path.0, root.path.1, refl);
      top = set_there d (name ∷ []) v [] (λ e. cc) ∙ old.top;
      there = set_there d (name ∷ []) v (bottom root.path.0 root.path.1) (λ e. cc) ∙ old.there;
      bare = λ n. set_there d (name ∷ []) v (bottom root.path.0 root.path.1 ++ n ∷ []) (λ e. cc) ∙ old.bare n;
    })

-- ---- the key files

not_same : (m n : ℕ) → m < n → m ≡ n → ⊥
not_same m n lt e = omega arith

byte_of : ℕ → Path → ℕ
byte_of i p = get_or (get_or p 0 []) i 0

masterkey_beside : masterkey_place ≢ new_config_place
unfolding byte_of
masterkey_beside e = not_same 109 118 (lit< tt) (ap (byte_of 0) e)

pub masterkey_beside_config : masterkey_place ≢ config_place
unfolding byte_of
masterkey_beside_config e = not_same 109 118 (lit< tt) (ap (byte_of 0) e)

pub new_beside_config : new_config_place ≢ config_place
unfolding byte_of
new_beside_config e = not_same 0 46 (lit< tt) (sym (ap (byte_of 17) e))

pub config_below : vault_file ≢ top_name
config_below e = not_same 100 118 (lit< tt) (sym (ap (λ (l : List ℕ). get_or l 0 0) e))

new_below : new_vault_file ≢ top_name
new_below e = not_same 100 118 (lit< tt) (sym (ap (λ (l : List ℕ). get_or l 0 0) e))

pub can_put_config : (d : Disk) (place : Path) (masterkey bytes : List ℕ) → HasRoot place d → CanDo (Put new_config_place bytes) (done (Put masterkey_place masterkey) d)
can_put_config d place masterkey bytes has = record {
  inside = set_there d masterkey_place (Some (file masterkey)) [] (λ e. cc) ∙ has.root.top;
  free = inl (ap is_some (set_there d masterkey_place (Some (file masterkey)) new_config_place (λ e. masterkey_beside (sym e)) ∙ has.free new_vault_file new_below));
}

pub has_key_files : (d : Disk) (place : Path) (masterkey config : List ℕ) → HasRoot place d
    → HasKeyFiles place masterkey config (done (Put new_config_place config) (done (Put masterkey_place masterkey) d))
has_key_files d place masterkey config has =
    let first = done (Put masterkey_place masterkey) d in record {
      root = root_stays first place _ (Some (file config)) (root_stays d place _ (Some (file masterkey)) has.root);
      masterkey = set_there first new_config_place (Some (file config)) masterkey_place masterkey_beside ∙ set_here d masterkey_place (Some (file masterkey)) masterkey_place refl;
      config = set_here first new_config_place (Some (file config)) new_config_place refl;
      free = set_there first new_config_place (Some (file config)) config_place (λ e. new_beside_config (sym e))
          ∙ set_there d masterkey_place (Some (file masterkey)) config_place (λ e. masterkey_beside_config (sym e))
          ∙ has.free vault_file config_below;
      alone = λ name not_top not_masterkey not_new.
          set_there first new_config_place (Some (file config)) (name ∷ []) not_new ∙ set_there d masterkey_place (Some (file masterkey)) (name ∷ []) not_masterkey ∙ has.free name not_top;
    }

pub can_move : (d : Disk) (place : Path) (masterkey config : List ℕ) → HasKeyFiles place masterkey config d → CanDo (Move new_config_place config_place) d
can_move d place masterkey config has = record { there = (config, has.config); inside = has.root.top; free = inl has.free }

pub is_laid_out : (d : Disk) (place : Path) (masterkey config : List ℕ) → HasKeyFiles place masterkey config d
    → IsLaidOut place masterkey config (done (Move new_config_place config_place) d)
is_laid_out d place masterkey config has =
    let moved = node_at d new_config_place in
    let less = set_at d new_config_place None in record {
      root = root_stays less place _ moved (root_stays d place _ None has.root);
      masterkey = set_there less config_place moved masterkey_place masterkey_beside_config ∙ set_there d new_config_place None masterkey_place masterkey_beside ∙ has.masterkey;
      config = set_here less config_place moved config_place refl ∙ has.config;
      alone = λ name not_top not_masterkey not_config.
          set_there less config_place moved (name ∷ []) not_config
          ∙ by_path (name ∷ []) new_config_place (λ e. set_here d new_config_place None (name ∷ []) e)
          (λ not_new. set_there d new_config_place None (name ∷ []) not_new ∙ has.alone name not_top not_masterkey not_new);
    }
