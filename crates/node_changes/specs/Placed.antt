-- Whether the place of a new name is taken, by the request that asks for it, and what is drawn for a node that is made.
use Rattle.std.specs.Prelude.{◌≡◌, ℕ, List, ◌++◌, length, Option, Some, None, Result, Ok, Err, ⊤}
use Rattle.std.specs.Option.{option_and_then}
use Rattle.outside.specs.Disk.{Disk, Path as HostPath}
use Rattle.deeds.specs.Deeds.{PlainDeed}
use Rattle.vault_keys.specs.Keys.{KeyPair}
use Rattle.file_chunks.specs.Header.{Head, sealed_header}
use Rattle.tree_model.specs.Names.{NameFault, clear_name}
use Rattle.tree_model.specs.Asked.{PlainRequest, look, walk, open_node, create, read, list, write, remove, stat_of, change, sync}
use Rattle.clear_tree.specs.Walk.{Sealing}
use Rattle.clear_tree.specs.Kept.{What, KeptFile, KeptLink, KeptDir, KeptBad}
use Rattle.tree_deed_laws.specs.Taken.{taken}
use Rattle.tree_deed_laws.specs.Deeds.{Place, create_file_deeds, create_dir_deeds}
use Rattle.live_tree.specs.Held.{HeldNode, HeldTree, node_of}
use Rattle.name_places.specs.New.{identifier_of}
use Rattle.name_places.specs.Claims.{claims_in}

-- the identifier of a directory
abbrev pub identifier_in : What → Option (List ℕ)
identifier_in (KeptFile size) = None
identifier_in (KeptLink size) = None
identifier_in (KeptDir identifier folder) = Some identifier
identifier_in (KeptBad text) = None

-- that of the directory of a number
abbrev pub identifier_at : HeldTree → ℕ → Option (List ℕ)
identifier_at live number = option_and_then (λ (node : HeldNode). identifier_in node.kept.what) (node_of live number)

-- the clear name that bytes are, if they are one
abbrev pub name_of : Result (List ℕ) NameFault → Option (List ℕ)
name_of (Ok name) = Some name
name_of (Err fault) = None

-- the first path that is taken of those that a name needs in the directory of a number, with the identifier that was drawn, if any. If
-- there is no such directory, or the bytes are no name, none is
abbrev pub taken_in : Sealing → Disk → HeldTree → ℕ → List ℕ → Option (List ℕ) → Option HostPath
taken_in s d live parent name drawn =
    option_and_then (λ i. option_and_then (λ n. taken s d (claims_in s live) i n drawn) (name_of (clear_name name))) (identifier_at live parent)

-- the parent of the node of a number
abbrev pub parent_at : HeldTree → ℕ → Option ℕ
parent_at live number = option_and_then (λ (node : HeldNode). Some node.kept.parent) (node_of live number)

-- the same by the request: a node is put at a new place if it is made, and if it gets another name
abbrev pub taken_for : Sealing → Disk → HeldTree → PlainRequest → Option (List ℕ) → Option HostPath
taken_for s d live (look n) drawn = None
taken_for s d live (walk n names) drawn = None
taken_for s d live (open_node n mode) drawn = None
taken_for s d live (create n name is_dir mode) drawn = taken_in s d live n name drawn
taken_for s d live (read n at most) drawn = None
taken_for s d live (list n after most) drawn = None
taken_for s d live (write n at bytes) drawn = None
taken_for s d live (remove n) drawn = None
taken_for s d live (stat_of n) drawn = None
taken_for s d live (change n c) drawn = option_and_then (λ name. option_and_then (λ parent. taken_in s d live parent name drawn) (parent_at live n)) c.name
taken_for s d live (sync n) drawn = None

-- ---- what is drawn

-- what was drawn goes on from what was before
abbrev pub GoesOn : List ℕ → List ℕ → Type 0
GoesOn old new = (more : List ℕ) × (new ≡ old ++ more)

-- an identifier is that of the 16 bytes that were drawn first
pub record IsIdentifierOf (identifier : List ℕ) (old new : List ℕ) : Type 0 where
  pub bytes : List ℕ
  pub sixteen : length bytes ≡ 16
  pub rest : List ℕ
  pub drew : new ≡ old ++ bytes ++ rest
  pub is : identifier ≡ identifier_of bytes

abbrev pub IfDrawn : Option (List ℕ) → (List ℕ → Type 0) → Type 0
IfDrawn None P = ⊤
IfDrawn (Some identifier) P = P identifier

-- The deeds make a file whose header holds the nonce of 12 bytes and the content key of 32 that were drawn for it, and nothing else was drawn.
pub record DrawsHeader (keys : KeyPair) (deeds : List PlainDeed) (old new : List ℕ) : Type 0 where
  pub head : Head
  pub nonce : length head.nonce ≡ 12
  pub key : length head.key ≡ 32
  pub drew : new ≡ old ++ head.nonce ++ head.key
  pub place : Place
  pub text : List ℕ
  pub are : deeds ≡ create_file_deeds place text (sealed_header keys head)

-- The deeds make a directory whose identifier, which its file keeps and whose folder is made, is that of the 16 bytes that were drawn for it,
-- and nothing else was drawn.
pub record DrawsIdentifier (s : Sealing) (deeds : List PlainDeed) (identifier : List ℕ) (old new : List ℕ) : Type 0 where
  pub bytes : List ℕ
  pub sixteen : length bytes ≡ 16
  pub drew : new ≡ old ++ bytes
  pub is : identifier ≡ identifier_of bytes
  pub place : Place
  pub text : List ℕ
  pub are : deeds ≡ create_dir_deeds place text (s.folder_of identifier) identifier
