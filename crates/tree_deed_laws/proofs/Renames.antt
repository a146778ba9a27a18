-- The laws of renames.
use Rattle.std.proofs.Common.{◌≡◌, ◌≢◌, ℕ, Bool, true, false, List, ◌∷◌, Some, None, refl, sym, ap, ◌∙◌, inl, inr, ◌⊎◌}
use Rattle.std.specs.FinMap.{get, insert, remove}
use Rattle.outside.specs.Disk.{Disk, file as Bytes}
use Rattle.clear_tree.specs.Walk.{Path, Sealing, Kind, Plain, Named, Linked, Bare, Node, File, Link, Dir, look, node, claimed, NamedOnce}
use Rattle.clear_tree.specs.Places.{entry_at, folders_of, host_entry, text_dir, text_symlink, text_contents, text_name}
use Rattle.clear_tree.specs.Marks.{NamedTwice}
use Rattle.tree_deed_laws.specs.Trees.{AreTexts, Tree, IsTreeOf, with_name, swapped}
use Rattle.tree_deed_laws.specs.Taken.{taken_by_identifier}
use Rattle.tree_deed_laws.specs.Changes.{IsNew, IsHeldByNone, Leads, RenamesFile, RenamesLink, RenamesDirectory}
use Rattle.tree_deed_laws.specs.Deeds.{entry_text, rename_node_at, rename_file_at}
use Rattle.tree_deed_laws.proofs.Disk.{entry_is}
use Rattle.tree_deed_laws.proofs.Seeing.{text_of, some_there}
use Rattle.tree_deed_laws.proofs.Nodes.{MakesKind}
use Rattle.tree_deed_laws.proofs.Filling.{IsAt, not_long, kind_name}
use Rattle.tree_deed_laws.proofs.Standing.{IsPlain, IsNewName, kind_of_file, kind_of_link, kind_of_dir, node_has}
use Rattle.tree_deed_laws.proofs.Exact.{unset, named_once, name_there}
use Rattle.tree_deed_laws.proofs.Stands.{StandsFor, stands, tree_stands}
use Rattle.tree_deed_laws.proofs.Maps.{get_moved}
use Rattle.tree_deed_laws.proofs.Held.{plain, now_at}
use Rattle.tree_deed_laws.proofs.Creates.{new_name, places}
use Rattle.tree_deed_laws.proofs.Moving.{Moves}
use Rattle.tree_deed_laws.proofs.Names.{NameChange, node_disk, node_stands, node_does, node_entries, node_ordered, node_repeatable, plain_does, plain_stands, long_disk, long_does, long_stands, short_disk, short_does, short_stands}

-- ---- the laws

-- a node of a tree that gets another name
pub record Renamed (s : Sealing) (d : Disk) (tree : Tree) (p : Path) (i n k : List ℕ) (x : Node) (b e : Bool) : Type 0 where
  pub texts : AreTexts s
  pub is : IsTreeOf s d tree
  pub held : IsHeldByNone tree p i n x
  pub new : IsNew s d tree p i k e None
  pub at_b : IsAt s d (s.folder_of i) (s.seal i n) b

module _ {s : Sealing} {d : Disk} {tree : Tree} {p : Path} {i n k : List ℕ} {x : Node} {b e : Bool} (renamed : Renamed s d tree p i n k x b e) where
  open renamed use {texts, is, held, new, at_b}

  abbrev o : List ℕ → Path
  o = is.owner

  abbrev pub st : StandsFor s d tree.marks tree.long o
  st = stands s d tree is

  abbrev pub it : IsPlain s d o p i n x
  it = plain s d tree p i n x is held

  abbrev pub name : IsNewName s d o p i k
  name = new_name s d tree p i k e None texts is new

  abbrev pub free : (entry_at s d (s.folder_of i) (s.seal i k) ≡ None) × (get d (host_entry (s.folder_of i) (s.long_of (s.seal i k))) ≡ None) × (taken_by_identifier s d new.place.claims None ≡ None)
  free = places s d tree p i k e None texts is new

  abbrev pub change : NameChange s d tree.marks tree.long o p i n k x b
  change = record {
    texts = texts;
    st = st;
    plain = it;
    new = name;
    short_free = free.0;
    long_free = free.1;
    is_at = at_b;
  }

  abbrev pub its : (kk : Kind) × (look s (folders_of s d) i n ≡ Some kk) × (kk ≢ Bare) × (node s (folders_of s d) o (n ∷ p) (Some kk) ≡ Some x)
  its = node_has s d tree.marks tree.long o p i n x b texts st it at_b

  pub named_so : (d' : Disk) → Moves s d d' tree.marks tree.long o n k p e → IsTreeOf s d' (with_name tree (n ∷ p) (k ∷ p) e)
  named_so d' m = tree_stands s d' (with_name tree (n ∷ p) (k ∷ p) e) (λ f. swapped (n ∷ p) (k ∷ p) (o f)) m.0
      (λ q. get_moved n k p apart tree.nodes q ∙ is.exact (swapped (n ∷ p) (k ∷ p) q) ∙ sym (m.1 q))
    where
      apart : n ≢ k
      apart h = some_there _ _ held.there (ap (λ (z : List ℕ). get tree.nodes (z ∷ p)) h ∙ new.free)

  module _ (kn t : List ℕ) (kind : MakesKind b kn t its.0) (kind' : MakesKind e kn t its.0) (once : (claimed s (Some x) ≡ None) ⊎ NamedOnce s (folders_of s d) o) where
    far : kn ≢ text_name
    far = kind_name b kn t its.0 kind

    abbrev after : Disk
    after = node_disk change e new.place.part kn t kind kind'

    moves : Moves s d after tree.marks tree.long o n k p e
    moves = node_stands change e new.place.part kn t kind kind' once

    pub renames_node : Leads s d (rename_node_at b e (s.folder_of i) (entry_text s b (s.seal i n)) (entry_text s e (s.seal i k)) (s.seal i k) kn) (with_name tree (n ∷ p) (k ∷ p) e)
    renames_node = record {
      after = after;
      ordered = node_ordered (s.folder_of i) (entry_text s b (s.seal i n)) (entry_text s e (s.seal i k)) (s.seal i k) kn far b e;
      does = node_does change e new.place.part kn t kind kind';
      repeatable = node_repeatable (s.folder_of i) (entry_text s b (s.seal i n)) (entry_text s e (s.seal i k)) (s.seal i k) kn far b e
          (node_entries change e new.place.part kn t kind kind');
      clear = named_so after moves;
    }

pub renames_link : RenamesLink
renames_link s d tree p i n k x e texts is held new = renames_node node text_symlink x (inr (inl (refl, kind))) (inr (inl (refl, kind))) (inl refl)
  where
    node : Renamed s d tree p i n k (Link x) (tree.long (n ∷ p)) e
    node = record {
      texts = texts;
      is = is;
      held = held;
      new = new;
      at_b = now_at s d tree p i n (Link x) is held;
    }

    kind : (its node).0 ≡ Linked x
    kind = kind_of_link s (folders_of s d) is.owner (n ∷ p) (its node).0 x (its node).3

pub renames_directory : RenamesDirectory
renames_directory s d tree p i n k t e texts is held new once = renames_node node text_dir t (inl (refl, kind)) (inl (refl, kind))
    (inr (named_once s (folders_of s d) is.owner (unset tree.marks.twice (NamedTwice s (folders_of s d) is.owner) is.marked.twice once)))
  where
    node : Renamed s d tree p i n k (Dir t) (tree.long (n ∷ p)) e
    node = record {
      texts = texts;
      is = is;
      held = held;
      new = new;
      at_b = now_at s d tree p i n (Dir t) is held;
    }

    kind : (its node).0 ≡ Named t
    kind = kind_of_dir s (folders_of s d) is.owner (n ∷ p) (its node).0 t (its node).3

-- ---- a file, from each place to each

module _ (s : Sealing) (d : Disk) (tree : Tree) (p : Path) (i n k y : List ℕ) (texts : AreTexts s) (is : IsTreeOf s d tree) (held : IsHeldByNone tree p i n (File y)) where
  abbrev F : List ℕ
  F = s.folder_of i

  abbrev X : List ℕ
  X = s.seal i n

  abbrev Y : List ℕ
  Y = s.seal i k

  abbrev renamed_file : (b e : Bool) → IsNew s d tree p i k e None → IsAt s d F X b → Renamed s d tree p i n k (File y) b e
  renamed_file b e new at_b = record {
    texts = texts;
    is = is;
    held = held;
    new = new;
    at_b = at_b;
  }

  kind_y : (b e : Bool) (new : IsNew s d tree p i k e None) (at_b : IsAt s d F X b) → (its (renamed_file b e new at_b)).0 ≡ Plain y
  kind_y b e new at_b = kind_of_file s (folders_of s d) is.owner (n ∷ p) (its (renamed_file b e new at_b)).0 y (its (renamed_file b e new at_b)).3

  file_short : (new : IsNew s d tree p i k false None) → IsAt s d F X false → Leads s d (rename_file_at false false F X Y Y) (with_name tree (n ∷ p) (k ∷ p) false)
  file_short new at_b = record {
    after = insert (remove d (host_entry F X)) (host_entry F Y) (Bytes y);
    ordered = refl;
    does = plain_does (change file) y plain_y refl (new.place.part refl);
    repeatable = record { apart = (tt, tt); beside_journal = (((λ e. cc), ((λ e. cc), tt)), tt); beside_new = (((λ e. cc), ((λ e. cc), tt)), tt) };
    clear = named_so file (insert (remove d (host_entry F X)) (host_entry F Y) (Bytes y)) (plain_stands (change file) y plain_y refl (new.place.part refl) refl);
  }
    where
      file : Renamed s d tree p i n k (File y) false false
      file = renamed_file false false new at_b

      plain_y : (its file).0 ≡ Plain y
      plain_y = kind_y false false new at_b

  file_to_long : (new : IsNew s d tree p i k true None) → IsAt s d F X false → Leads s d (rename_file_at false true F X (s.long_of Y) Y) (with_name tree (n ∷ p) (k ∷ p) true)
  file_to_long new at_b = record {
    after = long_disk (change file) y plain_y refl;
    ordered = refl;
    does = long_does (change file) y plain_y refl;
    repeatable = record {
      apart = (((((λ e. cc), tt), tt), (((λ e. cc), tt), tt), ((((λ e. off (sym (entry_is F (s.long_of Y) F X e).1)), ((λ e. cc), tt)), tt), (((λ e. off ((entry_is F X F (s.long_of Y) e).1)), tt), (((λ e. cc), tt), tt)), tt)), (((((λ e. cc), ((λ e. cc), tt)), tt), (((λ e. cc), tt), (((λ e. cc), tt), tt)), tt), (tt, tt)));
      beside_journal = (((λ e. cc), tt), (((λ e. cc), tt), (((λ e. cc), ((λ e. cc), tt)), tt)));
      beside_new = (((λ e. cc), tt), (((λ e. cc), tt), (((λ e. cc), ((λ e. cc), tt)), tt)));
    };
    clear = named_so file (long_disk (change file) y plain_y refl) (long_stands (change file) y plain_y refl refl);
  }
    where
      file : Renamed s d tree p i n k (File y) false true
      file = renamed_file false true new at_b

      plain_y : (its file).0 ≡ Plain y
      plain_y = kind_y false true new at_b

      off : X ≢ s.long_of Y
      off = not_long s texts X Y (text_of s texts i n (name_there s (folders_of s d) is.owner p n i (File y) (it file).parent (it file).there))

  file_to_short : (new : IsNew s d tree p i k false None) → IsAt s d F X true → Leads s d (rename_file_at true false F (s.long_of X) Y Y) (with_name tree (n ∷ p) (k ∷ p) false)
  file_to_short new at_b = record {
    after = short_disk (change file) y plain_y refl (new.place.part refl);
    ordered = refl;
    does = short_does (change file) y plain_y refl (new.place.part refl);
    repeatable = record {
      apart = (((((λ e. cc), tt), (((λ e. cc), tt), tt)), (((λ e. cc), ((λ e. cc), tt)), tt), ((((λ e. cc), tt), (((λ e. off ((entry_is F Y F (s.long_of X) e).1)), tt), tt)), (((λ e. cc), ((λ e. off (sym (entry_is F (s.long_of X) F Y e).1)), tt)), tt), tt)), (((((λ e. cc), tt), tt), (((λ e. cc), tt), tt), tt), (tt, tt)));
      beside_journal = (((λ e. cc), ((λ e. cc), tt)), (((λ e. cc), tt), (((λ e. cc), tt), tt)));
      beside_new = (((λ e. cc), ((λ e. cc), tt)), (((λ e. cc), tt), (((λ e. cc), tt), tt)));
    };
    clear = named_so file (short_disk (change file) y plain_y refl (new.place.part refl)) (short_stands (change file) y plain_y refl (new.place.part refl) refl);
  }
    where
      file : Renamed s d tree p i n k (File y) true false
      file = renamed_file true false new at_b

      plain_y : (its file).0 ≡ Plain y
      plain_y = kind_y true false new at_b

      off : Y ≢ s.long_of X
      off = not_long s texts Y X (text_of s texts i k new.place.named)

  file_long : (new : IsNew s d tree p i k true None) → IsAt s d F X true → Leads s d (rename_file_at true true F (s.long_of X) (s.long_of Y) Y) (with_name tree (n ∷ p) (k ∷ p) true)
  file_long new at_b = renames_node (renamed_file true true new at_b) text_contents y
      (inr (inr (refl, kind_y true true new at_b, refl))) (inr (inr (refl, kind_y true true new at_b, refl))) (inl refl)

  file_at' : (b e : Bool) → IsNew s d tree p i k e None → IsAt s d F X b
      → Leads s d (rename_file_at b e F (entry_text s b X) (entry_text s e Y) Y) (with_name tree (n ∷ p) (k ∷ p) e)
  file_at' false false new at_b = file_short new at_b
  file_at' false true new at_b = file_to_long new at_b
  file_at' true false new at_b = file_to_short new at_b
  file_at' true true new at_b = file_long new at_b

pub renames_file : RenamesFile
renames_file s d tree p i n k y e texts is held new = file_at' s d tree p i n k y texts is held (tree.long (n ∷ p)) e new (now_at s d tree p i n (File y) is held)
