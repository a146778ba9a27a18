-- The deeds of each change are a batch.
use Rattle.std.proofs.Common.{◌≡◌, ℕ, ◌*◌, ◌≤◌, ◌<◌, ◌^◌, List, [], ◌∷◌, length, drop, Bool, true, false, Result, Ok, Err, refl, sym, subst, arith, length-append}
use Rattle.std.specs.Prelude.{IsTrue, IfOk}
use Rattle.std.specs.Int.{w32, to_be_bytes}
use Rattle.std.specs.List.{AllByRecursion}
use Rattle.vault_path.specs.Parts.{is_part, is_path}
use Rattle.vault_path.proofs.Joined.{is_path-front}
use Rattle.outside.specs.Disk.{Path}
use Rattle.deeds.specs.Deeds.{PlainDeed, MakesDir, Puts, Renames, Removes, RemovesDir}
use Rattle.deeds.specs.Grammar.{spelled_bytes, spelled_deed, spelled_deeds, spelled_path, IsNamed, IsDeed, IsBatch}
use Rattle.deeds.proofs.Fields.{longer_good, wide32}
use Rattle.deeds.proofs.Lengths.{path_long}
use Rattle.clear_tree.specs.Places.{host_two, host_folder, host_entry, host_inner, text_dir, text_dirid, text_symlink, text_contents, text_name}
use Rattle.clear_tree.specs.Kept.{What, KeptFile, KeptLink, KeptDir, KeptBad}
use Rattle.clear_tree.specs.Built.{HasHostFolder}
use Rattle.tree_deed_laws.specs.Deeds.{Place, create_file_at, create_file_deeds, create_dir_deeds, remove_node_at, remove_file_at, remove_dir_at, remove_deeds, rename_node_at, rename_file_at, rename_deeds}
use Rattle.node_deeds.specs.Made.{IsHostPlace}

-- ---- a few deeds of few bytes

record IsShort (deed : PlainDeed) : Type 0 where
  good : IsDeed deed
  short : length (spelled_deed deed) ≤ 8589934592

makes_dir : (path : Path) → IsNamed path → IsShort (MakesDir path)
makes_dir path named = record { good = named; short = omega (arith, path_long path named.good) }

puts : (path : Path) (bytes : List ℕ) → IsNamed path → length bytes < 2 ^ 32 → IsShort (Puts path bytes)
puts path bytes named few = record {
  good = (named, few);
  short = omega (arith, few, path_long path named.good, length-append (spelled_path path) (spelled_bytes bytes), length-append (to_be_bytes w32 (length bytes)) bytes, wide32.len (length bytes));
}

renames : (from to : Path) → IsNamed from → IsNamed to → IsShort (Renames from to)
renames from to one other = record {
  good = (one, other);
  short = omega (arith, path_long from one.good, path_long to other.good, length-append (spelled_path from) (spelled_path to));
}

removes : (path : Path) → IsNamed path → IsShort (Removes path)
removes path named = record { good = named; short = omega (arith, path_long path named.good) }

removes_dir : (path : Path) → IsNamed path → IsShort (RemovesDir path)
removes_dir path named = record { good = named; short = omega (arith, path_long path named.good) }

all_good : (deeds : List PlainDeed) → AllByRecursion IsShort deeds → AllByRecursion IsDeed deeds
all_good [] each = tt
all_good (deed ∷ deeds) each = (each.0.good, all_good deeds each.1)

all_short : (deeds : List PlainDeed) → AllByRecursion IsShort deeds → length (spelled_deeds deeds) ≤ 8589934592 * length deeds
all_short [] each = omega arith
all_short (deed ∷ deeds) each = omega (arith, each.0.short, all_short deeds each.1, length-append (spelled_deed deed) (spelled_deeds deeds))

batch : (deeds : List PlainDeed) → length deeds ≤ 8 → AllByRecursion IsShort deeds → IsBatch deeds
batch deeds few each = record {
  few = omega (arith, few);
  each = all_good deeds each;
  short = omega (arith, few, all_short deeds each, length-append (to_be_bytes w32 (length deeds)) (spelled_deeds deeds), wide32.len (length deeds));
}

-- ---- the paths of a place

module _ (folder : List ℕ) (good : IsTrue (is_path (host_folder folder))) where
  at_two : IsNamed (host_two folder)
  at_two = record { good = is_path-front (host_two folder) (drop 2 folder ∷ []) good; below = λ e. (cc) }

  at_folder : IsNamed (host_folder folder)
  at_folder = record { good = good; below = λ e. (cc) }

  at_entry : (entry : List ℕ) → IsTrue (is_part entry) → IsNamed (host_entry folder entry)
  at_entry entry part = record { good = longer_good (host_folder folder) entry good (omega arith) part; below = λ e. (cc) }

  at_inner : (entry known : List ℕ) → IsTrue (is_part entry) → IsTrue (is_part known) → IsNamed (host_inner folder entry known)
  at_inner entry known part named = record { good = longer_good (host_entry folder entry) known (at_entry entry part).good (omega arith) named; below = λ e. (cc) }

  -- ---- the deeds at places of this folder

  module _ (entry : List ℕ) (part : IsTrue (is_part entry)) where
    here : IsNamed (host_entry folder entry)
    here = at_entry entry part

    inside : (known : List ℕ) → IsTrue (is_part known) → IsNamed (host_inner folder entry known)
    inside known named = at_inner entry known part named

    create_file : (long : Bool) (text header : List ℕ) → length text < 2 ^ 32 → length header < 2 ^ 32 → IsBatch (create_file_at long folder entry text header)
    create_file false text header few_text few = batch _ (omega arith) (puts _ header here few, tt)
    create_file true text header few_text few = batch _ (omega arith) (makes_dir _ here, (puts _ text (inside text_name refl) few_text, (puts _ header (inside text_contents refl) few, tt)))

    remove_node : (long : Bool) (known : List ℕ) → IsTrue (is_part known) → IsBatch (remove_node_at long folder entry known)
    remove_node false known named = batch _ (omega arith) (removes _ (inside known named), (removes_dir _ here, tt))
    remove_node true known named = batch _ (omega arith) (removes _ (inside known named), (removes _ (inside text_name refl), (removes_dir _ here, tt)))

    module _ (entry' : List ℕ) (part' : IsTrue (is_part entry')) (text : List ℕ) (few : length text < 2 ^ 32) where
      there : IsNamed (host_entry folder entry')
      there = at_entry entry' part'

      within : (known : List ℕ) → IsTrue (is_part known) → IsNamed (host_inner folder entry' known)
      within known named = at_inner entry' known part' named

      rename_node : (long long' : Bool) (known : List ℕ) → IsTrue (is_part known) → IsBatch (rename_node_at long long' folder entry entry' text known)
      rename_node false false known named = batch _ (omega arith) (makes_dir _ there, (renames _ _ (inside known named) (within known named), (removes_dir _ here, tt)))
      rename_node true false known named =
          batch _ (omega arith) (makes_dir _ there, (renames _ _ (inside known named) (within known named), (removes _ (inside text_name refl), (removes_dir _ here, tt))))
      rename_node false true known named =
          batch _ (omega arith) (makes_dir _ there, (puts _ text (within text_name refl) few, (renames _ _ (inside known named) (within known named), (removes_dir _ here, tt))))
      rename_node true true known named =
          batch _ (omega arith) (makes_dir _ there, (puts _ text (within text_name refl) few, (renames _ _ (inside known named) (within known named), (removes _ (inside text_name refl), (removes_dir _ here, tt)))))

      rename_file : (long long' : Bool) → IsBatch (rename_file_at long long' folder entry entry' text)
      rename_file false false = batch _ (omega arith) (renames _ _ here there, tt)
      rename_file false true = batch _ (omega arith) (makes_dir _ there, (puts _ text (within text_name refl) few, (renames _ _ here (within text_contents refl), tt)))
      rename_file true false = batch _ (omega arith) (renames _ _ (inside text_contents refl) there, (removes _ (inside text_name refl), (removes_dir _ here, tt)))
      rename_file true true = rename_node true true text_contents refl

create_dir : (long : Bool) (folder entry text own identifier : List ℕ) → IsTrue (is_path (host_folder folder)) → IsTrue (is_part entry) → IsTrue (is_path (host_folder own)) → length text < 2 ^ 32 → length identifier < 2 ^ 32
    → IsBatch (create_dir_deeds (record { folder = folder; entry = entry; long = long }) text own identifier)
create_dir false folder entry text own identifier good part own_good few_text few =
    batch _ (omega arith) (makes_dir _ (at_two own own_good), (makes_dir _ (at_folder own own_good), (makes_dir _ (here folder good entry part), (puts _ identifier (inside folder good entry part text_dir refl) few, tt))))
create_dir true folder entry text own identifier good part own_good few_text few =
    batch _ (omega arith) (
      makes_dir _ (at_two own own_good),
      (
        makes_dir _ (at_folder own own_good),
        (
          makes_dir _ (here folder good entry part),
          (puts _ text (inside folder good entry part text_name refl) few_text, (puts _ identifier (inside folder good entry part text_dir refl) few, tt)),
        ),
      ),
    )

remove_dir : (long : Bool) (folder entry own : List ℕ) → IsTrue (is_path (host_folder folder)) → IsTrue (is_part entry) → IsTrue (is_path (host_folder own)) → IsBatch (remove_dir_at long folder entry own)
remove_dir false folder entry own good part own_good =
    batch _ (omega arith) (
      removes _ (inside folder good entry part text_dir refl),
      (
        removes_dir _ (here folder good entry part),
        (removes _ (at_entry own own_good text_dirid refl), (removes_dir _ (at_folder own own_good), tt)),
      ),
    )
remove_dir true folder entry own good part own_good =
    batch _ (omega arith) (
      removes _ (inside folder good entry part text_dir refl),
      (
        removes _ (inside folder good entry part text_name refl),
        (
          removes_dir _ (here folder good entry part),
          (removes _ (at_entry own own_good text_dirid refl), (removes_dir _ (at_folder own own_good), tt)),
        ),
      ),
    )

-- ---- the changes

pub create_file_batch : (place : Place) (text header : List ℕ) → IsHostPlace place → length text < 2 ^ 32 → length header < 2 ^ 32 → IsBatch (create_file_deeds place text header)
create_file_batch place text header host few_text few = create_file place.folder host.folder place.entry host.entry place.long text header few_text few

pub create_dir_batch : (place : Place) (text own identifier : List ℕ) → IsHostPlace place → IsTrue (is_path (host_folder own)) → length text < 2 ^ 32 → length identifier < 2 ^ 32
    → IsBatch (create_dir_deeds place text own identifier)
create_dir_batch place text own identifier host own_good few_text few = create_dir place.long place.folder place.entry text own identifier host.folder host.entry own_good few_text few

remove_file : (long : Bool) (place : Place) → IsHostPlace place → IsBatch (remove_file_at long place.folder place.entry)
remove_file false place host = batch _ (omega arith) (removes _ (at_entry place.folder host.folder place.entry host.entry), tt)
remove_file true place host = remove_node place.folder host.folder place.entry host.entry true text_contents refl

pub remove_batch : (place : Place) (what : What) → IsHostPlace place → HasHostFolder what → IsBatch (remove_deeds place what)
remove_batch place (KeptFile size) host own = remove_file place.long place host
remove_batch place (KeptLink size) host own = remove_node place.folder host.folder place.entry host.entry place.long text_symlink refl
remove_batch place (KeptDir identifier folder) host own = remove_dir place.long place.folder place.entry folder host.folder host.entry own
remove_batch place (KeptBad text) host own = batch [] (omega arith) tt

pub rename_batch : (old new : Place) (text : List ℕ) (what : What) → IsHostPlace old → IsHostPlace new → new.folder ≡ old.folder → length text < 2 ^ 32 → IsBatch (rename_deeds old new text what)
rename_batch old new text (KeptFile size) one other same few = rename_file old.folder one.folder old.entry one.entry new.entry other.entry text few old.long new.long
rename_batch old new text (KeptLink size) one other same few = rename_node old.folder one.folder old.entry one.entry new.entry other.entry text few old.long new.long text_symlink refl
rename_batch old new text (KeptDir identifier folder) one other same few = rename_node old.folder one.folder old.entry one.entry new.entry other.entry text few old.long new.long text_dir refl
rename_batch old new text (KeptBad text') one other same few = batch [] (omega arith) tt

-- what was made is what was to be made
pub made_batch : {E : Type 0} {V : Type 0} (made : Result V E) (view : V → List PlainDeed) (deeds : List PlainDeed) → IfOk made (λ v. view v ≡ deeds) → IsBatch deeds → IfOk made (λ v. IsBatch (view v))
made_batch (Ok v) view deeds is all = subst IsBatch (sym is) all
made_batch (Err e) view deeds is all = tt
