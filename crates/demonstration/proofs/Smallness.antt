-- The messages of scripts are few and small.
use Rattle.std.proofs.Common.{◌≡◌, ℕ, zero, suc, ◌+◌, ◌*◌, ◌%◌, ◌<◌, ◌≤◌, ◌^◌, ◌==◌, Bool, true, false, List, [], ◌∷◌, ◌++◌, length, map, replicate, codes, if◌then◌else◌, ap, add-one, subst, ◌∙◌, arith, lit<, lit≤}
use Rattle.std.specs.List.{flat_map, AllByRecursion}
use Rattle.std.specs.Str.{IsAscii}
use Rattle.std.proofs.lemmas.Str.{IsUtf8-from_ascii, IsUtf8-nil}
use Rattle.std.proofs.lemmas.Str.Ascii.{IsAscii-cons, IsAscii-nil}
use Rattle.std.proofs.lemmas.List.{length-replicate, length-map, length-append}
use Rattle.std.proofs.lemmas.List.FromFn.{length-map-range_with_len}
use Rattle.byteorder.specs.Numbers.{little_number-reads_back}
use Rattle.tree_model.specs.Wire.{number, IsString}
use Rattle.ninep_wire.specs.TMessage.{PlainTMessage, version, attach, walk, open_fid, create, read, write, clunk, remove, wstat, t_kind, t_fields, IsTMessage, IsChange}
use Rattle.demonstration.specs.Words.{stream_word}
use Rattle.demonstration.specs.Script.{directory_name, file_in, number_in, offset_in, byte_in, kind_in, make_directory, make_file, write_file, read_file, remove_file, untouched, sync_directory, drawn_request, client_words, requests_of, tagged, script_of}
use Rattle.demonstration.specs.Small.{IsSmall, AreSmall}

-- ---- names

ascii : (bs : List ℕ) → AllByRecursion (λ b. b < 128) bs → IsAscii bs
ascii [] h = IsAscii-nil
ascii (b ∷ bs) h = IsAscii-cons b bs h.0 (ascii bs h.1)

directory_string : (client : ℕ) → client < 64 → IsString (directory_name client)
directory_string client h = record {
  fits = lit< tt;
  utf8 = IsUtf8-from_ascii (directory_name client) (ascii (directory_name client) (lit< tt, (omega arith, (omega arith, tt))));
}

file_string : (word : ℕ) → IsString (file_in word)
file_string word = record {
  fits = lit< tt;
  utf8 = IsUtf8-from_ascii (file_in word) (ascii (file_in word) (lit< tt, (omega arith, tt)));
}

-- ---- messages

small : (tag : ℕ) (c : PlainTMessage) → tag < 2 ^ 16 → IsTMessage c → length (t_fields c) ≤ 1024 → IsSmall (tagged tag c)
small tag c t is len =
    let size : length (t_fields c) + 7 < 256 ^ 4 = omega arith in
    record {
      message = record { tag = t; body = is; size = omega arith };
      framed = record {
        long = omega arith;
        size = little_number-reads_back 4 (length (t_fields c) + 7) (number 1 (t_kind c) ++ (number 2 tag ++ t_fields c)) size ∙ omega arith;
      };
      fits = omega arith;
    }

-- the bodies of a request's messages
record IsRequest (bodies : List PlainTMessage) : Type 0 where
  few : length bodies ≤ 4
  each : AllByRecursion (λ c. IsSmall (tagged 1 c)) bodies

of : (c : PlainTMessage) → IsTMessage c → length (t_fields c) ≤ 1024 → IsSmall (tagged 1 c)
of c is len = small 1 c (lit< tt) is len

clunked : (fid : ℕ) → fid < 2 ^ 32 → IsSmall (tagged 1 (clunk fid))
clunked fid h = of (clunk fid) h (lit≤ tt)

to_directory : (client : ℕ) → client < 64 → IsSmall (tagged 1 (walk 0 2 (directory_name client ∷ [])))
to_directory client h = of (walk 0 2 (directory_name client ∷ [])) (lit< tt, lit< tt, lit≤ tt, (directory_string client h, tt)) (lit≤ tt)

to_file : (client word : ℕ) → client < 64 → IsSmall (tagged 1 (walk 0 2 (directory_name client ∷ file_in word ∷ [])))
to_file client word h =
    of (walk 0 2 (directory_name client ∷ file_in word ∷ [])) (lit< tt, lit< tt, lit≤ tt, (directory_string client h, (file_string word, tt))) (lit≤ tt)

opened : (mode : ℕ) → mode < 2 ^ 8 → IsSmall (tagged 1 (open_fid 2 mode))
opened mode h = of (open_fid 2 mode) (lit< tt, h) (lit≤ tt)

-- ---- requests

makes_directory : (client : ℕ) → client < 64 → IsRequest (make_directory client)
makes_directory client h = record {
  few = lit≤ tt;
  each = (
    of (walk 0 1 []) (lit< tt, lit< tt, lit≤ tt, tt) (lit≤ tt),
    (of (create 1 (directory_name client) 0x800001ED 0) (lit< tt, directory_string client h, lit< tt, lit< tt) (lit≤ tt), (clunked 1 (lit< tt), tt)),
  );
}

makes_file : (client word : ℕ) → client < 64 → IsRequest (make_file client word)
makes_file client word h = record {
  few = lit≤ tt;
  each = (
    to_directory client h,
    (of (create 2 (file_in word) 0x1A4 1) (lit< tt, file_string word, lit< tt, lit< tt) (lit≤ tt), (clunked 2 (lit< tt), tt)),
  );
}

offset_fits : (word : ℕ) → offset_in word < 2 ^ 64
offset_fits word = omega arith

writes_file : (client word : ℕ) → client < 64 → IsRequest (write_file client word)
writes_file client word h =
    let bytes : List ℕ = replicate 512 (byte_in word) in
    let long : length bytes ≡ 512 = length-replicate 512 (byte_in word) in
    record {
      few = lit≤ tt;
      each = (
        to_file client word h,
        (opened 1 (lit< tt), (of (write 2 (offset_in word) bytes) (lit< tt, offset_fits word, omega arith) (omega arith), (clunked 2 (lit< tt), tt))),
      );
    }

reads_file : (client word : ℕ) → client < 64 → IsRequest (read_file client word)
reads_file client word h = record {
  few = lit≤ tt;
  each = (
    to_file client word h,
    (opened 0 (lit< tt), (of (read 2 (offset_in word) 512) (lit< tt, offset_fits word, lit< tt) (lit≤ tt), (clunked 2 (lit< tt), tt))),
  );
}

removes_file : (client word : ℕ) → client < 64 → IsRequest (remove_file client word)
removes_file client word h = record { few = lit≤ tt; each = (to_file client word h, (of (remove 2) (lit< tt) (lit≤ tt), tt)) }

untouched_fits : IsChange untouched
untouched_fits = record {
  kind = tt;
  device = tt;
  qid = tt;
  mode = tt;
  accessed = tt;
  modified = tt;
  long = tt;
  name = tt;
  owner = tt;
  group = tt;
  modifier = tt;
  size = lit< tt;
}

syncs_directory : (client : ℕ) → client < 64 → IsRequest (sync_directory client)
syncs_directory client h = record {
  few = lit≤ tt;
  each = (to_directory client h, (of (wstat 2 untouched) (lit< tt, untouched_fits) (lit≤ tt), (clunked 2 (lit< tt), tt)));
}

either : (b : Bool) (x y : List PlainTMessage) → IsRequest x → IsRequest y → IsRequest (if b then x else y)
either true x y h k = h
either false x y h k = k

drawn : (client word : ℕ) → client < 64 → IsRequest (drawn_request client word)
unfolding drawn_request
drawn client word h =
    either (kind_in word == 0) _ _ (makes_file client word h)
    (either (kind_in word == 1) _ _ (writes_file client word h)
    (either (kind_in word == 2) _ _ (reads_file client word h)
    (either (number_in word % 8 == 0) _ _ (removes_file client word h) (syncs_directory client h))))

-- ---- scripts

-- the bodies of so many requests' messages
record AreRequests (requests : ℕ) (bodies : List PlainTMessage) : Type 0 where
  few : length bodies ≤ 4 * requests
  each : AllByRecursion (λ c. IsSmall (tagged 1 c)) bodies

all_joined : {X : Type 0} (P : X → Type 0) (xs ys : List X) → AllByRecursion P xs → AllByRecursion P ys → AllByRecursion P (xs ++ ys)
all_joined P [] ys h k = k
all_joined P (x ∷ xs) ys h k = (h.0, all_joined P xs ys h.1 k)

all_mapped : {X Y : Type 0} (P : Y → Type 0) (f : X → Y) (xs : List X) → AllByRecursion (λ x. P (f x)) xs → AllByRecursion P (map f xs)
all_mapped P f [] h = tt
all_mapped P f (x ∷ xs) h = (h.0, all_mapped P f xs h.1)

one_more : (n : ℕ) (xs ys : List PlainTMessage) → IsRequest xs → AreRequests n ys → AreRequests (n + 1) (xs ++ ys)
one_more n xs ys h k = record {
  few = simp length-append (omega (arith, h.few, k.few));
  each = all_joined (λ c. IsSmall (tagged 1 c)) xs ys h.each k.each;
}

all_drawn : (client : ℕ) (words : List ℕ) → client < 64 → AreRequests (length words) (flat_map (drawn_request client) words)
all_drawn client [] h = record { few = lit≤ tt; each = tt }
all_drawn client (word ∷ words) h =
    subst (λ (n : ℕ). AreRequests n (flat_map (drawn_request client) (word ∷ words))) (add-one (length words))
    (one_more (length words) (drawn_request client word) (flat_map (drawn_request client) words) (drawn client word h) (all_drawn client words h))

requested : (seed client requests : ℕ) → client < 64 → AreRequests requests (requests_of seed client requests)
requested seed client zero h = record { few = lit≤ tt; each = tt }
requested seed client (suc more) h =
    let words = client_words seed client more in
    let count : length words ≡ more = length-map-range_with_len (stream_word seed (1 + client)) 0 more in
    subst (λ (n : ℕ). AreRequests n (requests_of seed client (suc more))) (ap (λ n. n + 1) count ∙ add-one more)
    (one_more (length words) (make_directory client) (flat_map (drawn_request client) words) (makes_directory client h) (all_drawn client words h))

version_string : IsString (codes "9P2000")
version_string = record {
  fits = lit< tt;
  utf8 = IsUtf8-from_ascii (codes "9P2000") (ascii (codes "9P2000") (lit< tt, (lit< tt, (lit< tt, (lit< tt, (lit< tt, (lit< tt, tt)))))));
}

user_string : IsString (codes "demo")
user_string = record {
  fits = lit< tt;
  utf8 = IsUtf8-from_ascii (codes "demo") (ascii (codes "demo") (lit< tt, (lit< tt, (lit< tt, (lit< tt, tt)))));
}

pub scripts_are_small : (seed client requests : ℕ) → client < 64 → AreSmall requests (script_of seed client requests)
scripts_are_small seed client requests h =
    let more = requested seed client requests h in
    let long : length (map (tagged 1) (requests_of seed client requests)) ≡ length (requests_of seed client requests) = length-map (requests_of seed client requests) (tagged 1) in
    record {
      few = omega (arith, more.few);
      each = (
        small 0xFFFF (version 65560 (codes "9P2000")) (lit< tt) (lit< tt, version_string) (lit≤ tt),
        (
          of (attach 0 0xFFFFFFFF (codes "demo") []) (lit< tt, lit< tt, user_string, record { fits = lit< tt; utf8 = IsUtf8-nil }) (lit≤ tt),
          all_mapped IsSmall (tagged 1) (requests_of seed client requests) more.each,
        ),
      );
    }
