-- A file whose bytes change.
use Rattle.std.proofs.Common.{◌≡◌, ◌+◌, ◌≤◌, ℕ, true, List, [], ◌∷◌, ◌++◌, length, take, drop, Option, Some, None, option_map, unwrap_or, refl, sym, ap, subst, ◌∙◌, arith, length-append, length-take}
use Rattle.std.specs.FinMap as map
use Rattle.outside.specs.Disk.{Path}
use Rattle.outside.specs.Changes.{overwritten}
use Rattle.host_calls.specs.declared.found.Inode.{Inode}
use Rattle.host_calls.specs.Volume.{bytes_in, each_value}
use Rattle.host_calls.specs.Bytes.{Filed, FileStep, Wrote, bytes_after}
use Rattle.host_calls.specs.Story.{Story, Files, bytes_of, bytes_now, writes, filed_after, IsSoundStory}
use Rattle.host_calls.specs.Calls.{IsLongFile}
use Rattle.host_calls.proofs.Volumes.{inodes_total, get_each, filed_here}
use Rattle.host_calls.proofs.Stories.{bytes_known}
use Rattle.host_calls.proofs.Written.{bytes_more}
use Rattle.mem_host.proofs.Files.{inserted_twice}

-- the bytes of a file, if this is what there is of it
pub bytes_by : (files : Files) (i : Inode) (o : Option Filed) → map.get files i ≡ o → bytes_in (each_value bytes_of files) i ≡ unwrap_or (option_map bytes_of o) []
bytes_by files i o is = ap (λ (b : Option (List ℕ)). unwrap_or b []) (get_each inodes_total bytes_of files i ∙ ap (option_map bytes_of) is)

-- what reads give after steps
pub bytes_written : (story : Story) (i : Inode) (steps : List FileStep) (filed : Filed) → map.get story.files i ≡ Some filed → bytes_now (writes i steps story) i ≡ bytes_after (bytes_now story i) steps
bytes_written story i steps filed known =
    bytes_by (writes i steps story).files i (Some (filed_after steps (map.get story.files i))) (filed_here story.files i (filed_after steps (map.get story.files i)))
    ∙ ap (λ (o : Option Filed). bytes_of (filed_after steps o)) known
    ∙ bytes_more filed.lasting steps filed.steps
    ∙ ap (λ (l : List ℕ). bytes_after l steps) (sym (bytes_known story i filed known))

-- a file that was written up to a place is that long
pub overwritten_long : (old bytes : List ℕ) (at : ℕ) → at ≤ length old → at + length bytes ≤ length (overwritten old at bytes)
overwritten_long old bytes at within = omega (arith, length-append (take at old ++ bytes) (drop (at + length bytes) old), length-append (take at old) bytes, length-take at old)

pub long_after : (story : Story) (path : Path) (i : Inode) (at : ℕ) (bytes : List ℕ) → IsSoundStory story → IsLongFile path i at story → IsLongFile path i (at + length bytes) (writes i (Wrote at bytes ∷ []) story)
long_after story path i at bytes sound file =
    let known = sound.known path i file.there in
    record {
      there = file.there;
      long = subst (λ (l : List ℕ). at + length bytes ≤ length l) (sym (bytes_written story i (Wrote at bytes ∷ []) known.0 known.1)) (overwritten_long (bytes_now story i) bytes at file.long);
    }

-- steps after others
after_both : (more steps : List FileStep) (o : Option Filed) → filed_after more (Some (filed_after steps o)) ≡ filed_after (more ++ steps) o
after_both [] steps None = refl
after_both [] steps (Some filed) = refl
after_both (last ∷ more) steps None = refl
after_both (last ∷ more) steps (Some filed) = ap (λ (l : List FileStep). record { lasting = filed.lasting; steps = last ∷ l }) (again more)
  where
    again : (xs : List FileStep) → xs ++ (steps ++ filed.steps) ≡ (xs ++ steps) ++ filed.steps
    again [] = refl
    again (x ∷ xs) = ap (λ (l : List FileStep). x ∷ l) (again xs)

pub written_twice : (story : Story) (i : Inode) (more steps : List FileStep) → writes i more (writes i steps story) ≡ writes i (more ++ steps) story
written_twice story i more steps =
    let first = filed_after steps (map.get story.files i) in
    let files : map.insert (map.insert story.files i first) i (filed_after more (map.get (map.insert story.files i first) i)) ≡ map.insert story.files i (filed_after (more ++ steps) (map.get story.files i)) =
    ap (λ (o : Option Filed). map.insert (map.insert story.files i first) i (filed_after more o)) (filed_here story.files i first)
    ∙ inserted_twice story.files i first (filed_after more (Some first))
    ∙ ap (map.insert story.files i) (after_both more steps (map.get story.files i)) in
    ap (λ (f : Files). record { base = story.base; naming = story.naming; files = f; doubt = story.doubt; diary = story.diary; unnoted = true }) files
