-- Disks that look alike but for bytes of files, and the places that are taken on them.
use Rattle.std.proofs.Common.{◌≡◌, ℕ, Bool, true, false, cond, List, length, Option, Some, None, refl, ap, ap₂, ◌∙◌, arith}
use Rattle.std.specs.Option.{option_and_then}
use Rattle.outside.specs.Disk.{Disk, Node as Thing, folder as Folder, file as Bytes, node_at as thing_at, Path as HostPath}
use Rattle.chunk_journal.specs.Journal.{IsAlike, journal_file, new_file}
use Rattle.pending_files.specs.Laid.{LookAlike, outline}
use Rattle.tree_model.specs.Asked.{PlainRequest, look, walk, open_node, create, read, list, write, remove, stat_of, change, sync}
use Rattle.tree_model.specs.Names.{clear_name}
use Rattle.clear_tree.specs.Walk.{Sealing}
use Rattle.clear_tree.specs.Places.{entry_at, host_two, host_folder, host_entry}
use Rattle.tree_deed_laws.specs.Taken.{Claim, or_else, if_there, if_file, first_claim, taken, taken_by_identifier}
use Rattle.live_tree.specs.Held.{HeldTree}
use Rattle.name_places.specs.Claims.{claims_in}
use Rattle.node_changes.specs.Placed.{identifier_at, name_of, parent_at, taken_for, taken_in}

pub looks_itself : (a : Disk) → LookAlike a a
looks_itself a q deep = refl

pub looks_through : (a b c : Disk) → LookAlike a b → LookAlike b c → LookAlike a c
looks_through a b c first second q deep = second q deep ∙ first q deep

-- what differs in the journal's two files alone looks alike below the top
pub looks_beside : (a b : Disk) → IsAlike a b → LookAlike a b
looks_beside a b same q deep = ap outline (same q (λ e. absurd (top journal_file refl e)) (λ e. absurd (top new_file refl e)))
  where
    top : (p : HostPath) → length p ≡ 1 → q ≡ p → ⊥
    top p one e = omega (arith, deep, one, ap length e)

-- ---- what is there

there_alike : (p : HostPath) (x y : Option Thing) → outline y ≡ outline x → if_there p x ≡ if_there p y
there_alike p None None same = refl
there_alike p None (Some Folder) same = absurd cc
there_alike p None (Some (Bytes b)) same = absurd cc
there_alike p (Some Folder) None same = absurd cc
there_alike p (Some (Bytes a)) None same = absurd cc
there_alike p (Some x) (Some y) same = refl

file_alike : (p : HostPath) (x y : Option Thing) → outline y ≡ outline x → if_file p x ≡ if_file p y
file_alike p None None same = refl
file_alike p None (Some Folder) same = absurd cc
file_alike p None (Some (Bytes b)) same = absurd cc
file_alike p (Some Folder) None same = absurd cc
file_alike p (Some (Bytes a)) None same = absurd cc
file_alike p (Some Folder) (Some Folder) same = refl
file_alike p (Some Folder) (Some (Bytes b)) same = absurd cc
file_alike p (Some (Bytes a)) (Some Folder) same = absurd cc
file_alike p (Some (Bytes a)) (Some (Bytes b)) same = refl

entry_alike : (part : Bool) (x y : Option Thing) → outline y ≡ outline x → outline (cond part y None) ≡ outline (cond part x None)
entry_alike true x y same = same
entry_alike false x y same = refl

-- ---- places

identifier_alike : (s : Sealing) (a b : Disk) (claims : List Claim) (drawn : Option (List ℕ)) → LookAlike a b → taken_by_identifier s a claims drawn ≡ taken_by_identifier s b claims drawn
identifier_alike s a b claims None same = refl
identifier_alike s a b claims (Some t) same =
    let f : List ℕ = s.folder_of t in
    ap₂ or_else
    (there_alike (host_folder f) (thing_at a (host_folder f)) (thing_at b (host_folder f)) (same (host_folder f) (omega arith)))
    (ap (λ (o : Option HostPath). or_else o (first_claim f claims)) (file_alike (host_two f) (thing_at a (host_two f)) (thing_at b (host_two f)) (same (host_two f) (omega arith))))

taken_alike : (s : Sealing) (a b : Disk) (claims : List Claim) (i n : List ℕ) (drawn : Option (List ℕ)) → LookAlike a b → taken s a claims i n drawn ≡ taken s b claims i n drawn
taken_alike s a b claims i n drawn same =
    let short : HostPath = host_entry (s.folder_of i) (s.seal i n) in
    let long : HostPath = host_entry (s.folder_of i) (s.long_of (s.seal i n)) in
    ap₂ or_else
    (there_alike short (entry_at s a (s.folder_of i) (s.seal i n)) (entry_at s b (s.folder_of i) (s.seal i n))
    (entry_alike (s.is_part (s.seal i n)) (thing_at a short) (thing_at b short) (same short (omega arith))))
    (ap₂ or_else (there_alike long (thing_at a long) (thing_at b long) (same long (omega arith))) (identifier_alike s a b claims drawn same))

module _ (s : Sealing) (a b : Disk) (live : HeldTree) (drawn : Option (List ℕ)) (same : LookAlike a b) where
  in_alike : (parent : ℕ) (name : List ℕ) → taken_in s a live parent name drawn ≡ taken_in s b live parent name drawn
  in_alike parent name = in_directory (identifier_at live parent)
    where
      in_name : (i : List ℕ) (o : Option (List ℕ)) → option_and_then (λ n. taken s a (claims_in s live) i n drawn) o ≡ option_and_then (λ n. taken s b (claims_in s live) i n drawn) o
      in_name i None = refl
      in_name i (Some n) = taken_alike s a b (claims_in s live) i n drawn same

      in_directory : (o : Option (List ℕ)) → option_and_then (λ i. option_and_then (λ n. taken s a (claims_in s live) i n drawn) (name_of (clear_name name))) o
          ≡ option_and_then (λ i. option_and_then (λ n. taken s b (claims_in s live) i n drawn) (name_of (clear_name name))) o
      in_directory None = refl
      in_directory (Some i) = in_name i (name_of (clear_name name))

  below_alike : (name : List ℕ) (o : Option ℕ) → option_and_then (λ parent. taken_in s a live parent name drawn) o ≡ option_and_then (λ parent. taken_in s b live parent name drawn) o
  below_alike name None = refl
  below_alike name (Some parent) = in_alike parent name

  named_alike : (n : ℕ) (o : Option (List ℕ)) → option_and_then (λ name. option_and_then (λ parent. taken_in s a live parent name drawn) (parent_at live n)) o
      ≡ option_and_then (λ name. option_and_then (λ parent. taken_in s b live parent name drawn) (parent_at live n)) o
  named_alike n None = refl
  named_alike n (Some name) = below_alike name (parent_at live n)

  -- the same place is taken for a request
  pub for_alike : (request : PlainRequest) → taken_for s a live request drawn ≡ taken_for s b live request drawn
  for_alike (look n) = refl
  for_alike (walk n names) = refl
  for_alike (open_node n mode) = refl
  for_alike (create n name is_dir mode) = in_alike n name
  for_alike (read n at most) = refl
  for_alike (list n after most) = refl
  for_alike (write n at bytes) = refl
  for_alike (remove n) = refl
  for_alike (stat_of n) = refl
  for_alike (change n c) = named_alike n c.name
  for_alike (sync n) = refl
