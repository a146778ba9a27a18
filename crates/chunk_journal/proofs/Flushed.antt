-- What isn't on the disk of a tidy log is on it, once the loose paths are flushed.
use Rattle.std.proofs.Common.{◌≡◌, ℕ, List, Contains, Bool, true, false, bytes_eq, Option, None, Some, refl, ap}
use Rattle.std.specs.Bool.{Decides}
use Rattle.std.proofs.lemmas.Slice.Eq.{bytes_eq-Decides}
use Rattle.outside.specs.Disk.{Path, Node, file, folder, node_at}
use Rattle.outside.specs.Images.{Log, now, IsSound}
use Rattle.outside.proofs.Paths.{same_disk}
use Rattle.outside.specs.Unsynced.{touched, unsynced}
use Rattle.chunk_journal.specs.Journal.{IsLoose, IsTidy}
use Rattle.chunk_journal.specs.Flushed.{IsFirm, IsFlushedWhole}
use Rattle.chunk_journal.proofs.Elsewhere.{image_there, sound_whole}

-- ---- what is at a path is the same if it is absurd that it isn't

same_bytes : (b : Bool) (x y : List ℕ) → Decides b (x ≡ y) → ((x ≡ y → ⊥) → ⊥) → x ≡ y
same_bytes true x y decides never = decides.0 refl
same_bytes false x y decides never = absurd (never (λ e. let no : false ≡ true = decides.1 e in cc))

same_node : (a b : Option Node) → ((a ≡ b → ⊥) → ⊥) → a ≡ b
same_node None None never = refl
same_node None (Some y) never = absurd (never (λ e. cc))
same_node (Some x) None never = absurd (never (λ e. cc))
same_node (Some folder) (Some folder) never = refl
same_node (Some folder) (Some (file y)) never = absurd (never (λ e. cc))
same_node (Some (file x)) (Some folder) never = absurd (never (λ e. cc))
same_node (Some (file x)) (Some (file y)) never =
    ap (λ (bytes : List ℕ). Some (file bytes)) (same_bytes (bytes_eq x y) x y (bytes_eq-Decides x y) (λ apart. never (λ e. apart (cc))))

-- ---- the whole

pub sound_tidy : (log : Log) → IsSound log.start log.calls → ((path : Path) → Contains (touched (unsynced log.calls)) path → IsLoose (now log) path) → IsTidy log
sound_tidy log sound loose = record { sound = sound_whole log.start log.calls sound; loose = loose }

pub tidy_firm : (log : Log) → IsTidy log → IsFirm log
tidy_firm log tidy image is path firm = image_there log.start log.calls tidy.sound image is path (λ there. firm (tidy.loose path there))

pub tidy_flushed : (log : Log) → IsTidy log → IsFlushedWhole log
tidy_flushed log tidy image is flushed =
    same_disk image (now log) (λ path. same_node (node_at image path) (node_at (now log) path) (λ apart. apart (tidy_firm log tidy image is path (λ loose. apart (flushed path loose)))))
