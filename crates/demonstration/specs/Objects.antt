-- What a demonstration runs over.
use Rattle.std.specs.Prelude.{◌≡◌, ℕ, ◌+◌, ◌-◌, ◌^◌, List, [], ◌∷◌, ◌++◌, length, take, Some}
use Rattle.rand_chacha.specs.ChaCha.{key_of}
use Rattle.hex.specs.Hex.{encode_lower}
use Rattle.outside.specs.Changes.{MakeDir, done}
use Rattle.outside.specs.Disk.{Disk}
use Rattle.outside.specs.Images.{now}
use Rattle.outside.specs.Views.{FolderView, EntropyView, ListenerView, LinkView}
use Rattle.outside_mem.specs.Held.{Holding, bare}
use Rattle.outside_mem.specs.Links.{Ends, Links}
use Rattle.outside_mem.specs.Plan.{no_faults}
use Rattle.outside_mem.specs.Streams.{Left, Taken}
use Rattle.outside_mem.specs.Words.{Drawing, drawn_bytes, words_from}
use Rattle.vault_keys.specs.Keys.{KeyPair}
use Rattle.vault_names.specs.Folder.{folder_of}
use Rattle.demonstration.specs.Words.{stream_seed}
use Rattle.demonstration.specs.Script.{script_of, spelled_messages}

-- ---- the vault

-- the vault's two keys: the first 64 bytes, 16 words, of stream 0
abbrev pub key_bytes : ℕ → List ℕ
key_bytes seed = words_from (key_of (stream_seed seed 0)) 0 16

-- the keys as a secret: their hexadecimal digits, and LF
abbrev pub key_line : ℕ → List ℕ
key_line seed = encode_lower (key_bytes seed) ++ 10 ∷ []

-- a path without its last part
abbrev pub parent_of : List (List ℕ) → List (List ℕ)
parent_of path = take (length path - 1) path

-- a folder that is made there
abbrev pub with_folder : List (List ℕ) → Disk → Disk
with_folder path disk = done (MakeDir path) disk

-- a disk with this folder, which lies three deep, and the two above it
abbrev pub disk_with : List (List ℕ) → Disk
disk_with root = with_folder root (with_folder (parent_of root) (with_folder (parent_of (parent_of root)) bare))

-- a folder in memory that holds the root's folder and nothing else, and has no faults
pub record IsEmptyVault (keys : KeyPair) (folder : Holding) : Type 0 where
  pub disk : now folder.log ≡ disk_with (folder_of keys [])
  pub faults : folder.plan.faults ≡ 0

-- ---- streams

-- a source of these bytes, and a sink that has taken none; each call reads and writes as much as there is
abbrev pub all_at_once : ℕ
all_at_once = 2 ^ 64 - 1

abbrev pub source_of : List ℕ → Left
source_of bytes = record { left = bytes; piece = all_at_once; plan = no_faults }

abbrev pub empty_sink : Taken
empty_sink = record { taken = []; piece = all_at_once; plan = no_faults }

-- ---- the clients

-- the link of a client, which sends its script
abbrev pub link_of : ℕ → ℕ → ℕ → Ends
link_of seed client requests = record { source = source_of (spelled_messages (script_of seed client requests)); sink = empty_sink }

-- that link alone is to come
abbrev pub listener_of : ℕ → ℕ → ℕ → Links
listener_of seed client requests = record { to_come = link_of seed client requests ∷ []; given_back = []; plan = no_faults }

-- the random source of a client's worker: stream 1000 + j, of which nothing was drawn
abbrev pub entropy_of : ℕ → ℕ → Drawing
entropy_of seed client = record { key = key_of (stream_seed seed (1000 + client)); words = 0; plan = no_faults }

-- ---- how the objects are seen

abbrev pub folder_seen : Holding → FolderView
folder_seen folder = record { log = Some folder.log; faults = folder.plan.faults; changes = folder.changes }

abbrev pub listener_seen : Links → ListenerView Ends
listener_seen listener = record { to_come = Some listener.to_come; given_back = Some listener.given_back; faults = listener.plan.faults }

abbrev pub link_seen : Ends → LinkView
link_seen link = record {
  left = Some link.source.left;
  taken = Some link.sink.taken;
  read_faults = link.source.plan.faults;
  write_faults = link.sink.plan.faults;
}

abbrev pub entropy_seen : Drawing → EntropyView
entropy_seen source = record { drawn = Some (drawn_bytes source); faults = source.plan.faults }
