-- What a client of a demonstration sends.
use Rattle.std.specs.Prelude.{ℕ, zero, suc, ◌+◌, ◌*◌, ◌/◌, ◌%◌, ◌==◌, List, [], ◌∷◌, ◌++◌, map, replicate, codes, None, if◌then◌else◌}
use Rattle.std.specs.List.{flat_map, range_with_len}
use Rattle.tree_model.specs.Asked.{PlainChange}
use Rattle.ninep_wire.specs.TMessage.{PlainTMessage, version, attach, walk, open_fid, create, read, write, clunk, remove, wstat, PlainMessage, spelled_t}
use Rattle.demonstration.specs.Words.{stream_word}

-- ---- names

abbrev pub digit : ℕ → ℕ
digit n = 48 + n

-- a client's directory: `c` and its number in two digits
abbrev pub directory_name : ℕ → List ℕ
directory_name client = codes "c" ++ digit (client / 10) ∷ digit (client % 10) ∷ []

-- a file in it: `f` and its number, below 8
abbrev pub file_name : ℕ → List ℕ
file_name n = codes "f" ++ digit n ∷ []

-- ---- what a word asks for: from its lowest bits up, 2 are the kind of request, 3 the file, 12 a number and 8 a byte

abbrev pub kind_in : ℕ → ℕ
kind_in word = word % 4

abbrev pub file_in : ℕ → List ℕ
file_in word = file_name (word / 4 % 8)

abbrev pub number_in : ℕ → ℕ
number_in word = word / 32 % 4096

-- where a file is written and read
abbrev pub offset_in : ℕ → ℕ
offset_in word = 16 * number_in word

-- the byte that is written
abbrev pub byte_in : ℕ → ℕ
byte_in word = word / 131072 % 256

-- ---- the messages of a request. Fid 0 is the root, 1 the directory while it is made, and 2 what a request walks to.

-- perm 0x800001ED: a directory with the bits rwxr-xr-x
abbrev pub make_directory : ℕ → List PlainTMessage
make_directory client = walk 0 1 [] ∷ create 1 (directory_name client) 0x800001ED 0 ∷ clunk 1 ∷ []

-- perm 0x1A4: a file with the bits rw-r--r--, opened for writing
abbrev pub make_file : ℕ → ℕ → List PlainTMessage
make_file client word = walk 0 2 (directory_name client ∷ []) ∷ create 2 (file_in word) 0x1A4 1 ∷ clunk 2 ∷ []

abbrev pub walk_to_file : ℕ → ℕ → PlainTMessage
walk_to_file client word = walk 0 2 (directory_name client ∷ file_in word ∷ [])

abbrev pub write_file : ℕ → ℕ → List PlainTMessage
write_file client word = walk_to_file client word ∷ open_fid 2 1 ∷ write 2 (offset_in word) (replicate 512 (byte_in word)) ∷ clunk 2 ∷ []

abbrev pub read_file : ℕ → ℕ → List PlainTMessage
read_file client word = walk_to_file client word ∷ open_fid 2 0 ∷ read 2 (offset_in word) 512 ∷ clunk 2 ∷ []

abbrev pub remove_file : ℕ → ℕ → List PlainTMessage
remove_file client word = walk_to_file client word ∷ remove 2 ∷ []

abbrev pub untouched : PlainChange
untouched = record {
  kind = None;
  device = None;
  qid = None;
  mode = None;
  accessed = None;
  modified = None;
  length = None;
  name = None;
  owner = None;
  group = None;
  modifier = None;
}

-- a change that touches nothing asks that all be on the disk (stat(5))
abbrev pub sync_directory : ℕ → List PlainTMessage
sync_directory client = walk 0 2 (directory_name client ∷ []) ∷ wstat 2 untouched ∷ clunk 2 ∷ []

-- a request for which a word was drawn
unfoldable pub drawn_request : ℕ → ℕ → List PlainTMessage
drawn_request client word =
    if kind_in word == 0 then make_file client word
    else if kind_in word == 1 then write_file client word
    else if kind_in word == 2 then read_file client word
    else if number_in word % 8 == 0 then remove_file client word
    else sync_directory client

-- ---- scripts

-- the first n words of client j: those of stream 1 + j
abbrev pub client_words : ℕ → ℕ → ℕ → List ℕ
client_words seed client n = map (stream_word seed (1 + client)) (range_with_len 0 n)

-- so many requests: the first makes the directory, and each further one takes a word
abbrev pub requests_of : ℕ → ℕ → ℕ → List PlainTMessage
requests_of seed client zero = []
requests_of seed client (suc more) = make_directory client ++ flat_map (drawn_request client) (client_words seed client more)

abbrev pub tagged : ℕ → PlainTMessage → PlainMessage
tagged tag body = record { tag = tag; body = body }

-- a client begins with the size and the version, without a tag, and attaches as `demo`
abbrev pub attaching : List PlainMessage
attaching =
    tagged 0xFFFF (version 65560 (codes "9P2000"))
    ∷ tagged 1 (attach 0 0xFFFFFFFF (codes "demo") [])
    ∷ []

-- a script: after that, so many requests, whose messages have the tag 1
abbrev pub script_of : ℕ → ℕ → ℕ → List PlainMessage
script_of seed client requests = attaching ++ map (tagged 1) (requests_of seed client requests)

-- messages one after the other
abbrev pub spelled_messages : List PlainMessage → List ℕ
spelled_messages messages = flat_map spelled_t messages

-- a message with the tag 1, as bytes
unfoldable pub sent : PlainTMessage → List ℕ
sent body = spelled_t (tagged 1 body)
