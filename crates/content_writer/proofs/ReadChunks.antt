-- What the reads of a chunk and of a header say.
use Rattle.std.proofs.Common.{◌≡◌, ℕ, ◌+◌, ◌-◌, ◌*◌, min, List, length, take, drop, Option, Some, sym, ap, ◌∙◌, arith, length-drop}
use Rattle.outside.specs.Disk.{Disk, Path, node_at, file}
use Rattle.outside.specs.Calls.{Told}
use Rattle.outside.proofs.Told.{told_then}
use Rattle.file_chunks.specs.Header.{Head}
use Rattle.file_chunks.specs.Chunk.{chunk_opens}
use Rattle.file_chunks.specs.File.{sealed_at}
use Rattle.content_reader.proofs.ReadLemmas.{Gives}
use Rattle.content_reader.proofs.Spans.{take_min}
use Rattle.content_writer.specs.Sealing.{IsOpenedChunk}

-- ---- a chunk

-- a read of a chunk's place gives the sealed chunk
module _ (contents : Option Disk) (path : Path) (index n room : ℕ) (new : List ℕ) (is_room : room ≡ 32796) (gives : Gives contents path (68 + 32796 * index) room new n) where
  chunk_read : Told contents (λ d. (bytes : List ℕ) → node_at d path ≡ Some (file bytes) → take n new ≡ sealed_at bytes index)
  chunk_read =
      told_then contents (λ d. (bytes : List ℕ) × (node_at d path ≡ Some (file bytes)) × (n ≡ min room (length bytes - (68 + 32796 * index))) × (take n new ≡ take n (drop (68 + 32796 * index) bytes)))
      (λ d. (bytes : List ℕ) → node_at d path ≡ Some (file bytes) → take n new ≡ sealed_at bytes index) gives (λ d read bytes there.
      let same : read.0 ≡ bytes = cc (read.1, there) in
      let counted : n ≡ min 32796 (length (drop (68 + 32796 * index) read.0)) = omega (arith, read.2, length-drop (68 + 32796 * index) read.0) in
      read.3 ∙ take_min 32796 n (drop (68 + 32796 * index) read.0) counted ∙ ap (λ (bs : List ℕ). sealed_at bs index) same)

  pub chunk_told : (head : Head) (found : Option (List ℕ)) (sealed : List ℕ) → sealed ≡ new → chunk_opens head index (take n sealed) ≡ found
      → Told contents (λ d. (bytes : List ℕ) → node_at d path ≡ Some (file bytes) → chunk_opens head index (sealed_at bytes index) ≡ found)
  chunk_told head found sealed same is =
      told_then contents (λ d. (bytes : List ℕ) → node_at d path ≡ Some (file bytes) → take n new ≡ sealed_at bytes index)
      (λ d. (bytes : List ℕ) → node_at d path ≡ Some (file bytes) → chunk_opens head index (sealed_at bytes index) ≡ found) chunk_read (λ d read bytes there.
      ap (chunk_opens head index) (sym (read bytes there) ∙ ap (take n) (sym same)) ∙ is)

  pub opened_told : (head : Head) (sealed plaintext held : List ℕ) → sealed ≡ new → held ≡ plaintext → chunk_opens head index (take n sealed) ≡ Some plaintext
      → length plaintext + 28 ≡ length (take n sealed)
      → Told contents (λ d. (bytes : List ℕ) → node_at d path ≡ Some (file bytes) → IsOpenedChunk head index bytes held)
  opened_told head sealed plaintext held same is opens long =
      told_then contents (λ d. (bytes : List ℕ) → node_at d path ≡ Some (file bytes) → take n new ≡ sealed_at bytes index)
      (λ d. (bytes : List ℕ) → node_at d path ≡ Some (file bytes) → IsOpenedChunk head index bytes held) chunk_read (λ d read bytes there.
      let chunk : take n sealed ≡ sealed_at bytes index = ap (take n) same ∙ read bytes there in
      record {
        opens = ap (chunk_opens head index) (sym chunk) ∙ opens ∙ ap (λ (p : List ℕ). Some p) (sym is);
        long = ap (λ (p : List ℕ). length p + 28) is ∙ long ∙ ap length chunk;
      })
