-- S2V and SIV (RFC 5297) with no or one associated string, over a block cipher on blocks of 16 bytes. `mac` is the cipher
-- under the half of the key that S2V takes, `ctr` that under the half that the counter takes.
use Rattle.std.specs.Prelude.{ℕ, ◌+◌, ◌-◌, ◌/◌, ◌%◌, ◌^◌, List, ◌++◌, length, take, drop, Option, Some, None, bit_and, nat_lt, if◌then◌else◌}
use Rattle.std.specs.Borrow.{Bor}
use Rattle.std.specs.Option.{option_copied}
use Rattle.std.specs.Str.{bytes_eq}
use Rattle.std.specs.List.{flat_map, range_with_len}
use Rattle.aes_block.specs.Bytes.{xor_bytes, number_of, bytes_of}
use Rattle.siv_mode.specs.Cmac.{zero_block, doubled, padded, cmac}

-- what an optional slice holds
abbrev pub ad_of : Option (Bor (List ℕ)) → Option (List ℕ)
ad_of ad = option_copied ad

-- D after the associated string, if there is one (2.4)
abbrev pub mixed : (List ℕ → List ℕ) → Option (List ℕ) → List ℕ
mixed mac None = cmac mac zero_block
mixed mac (Some ad) = xor_bytes (doubled (cmac mac zero_block)) (cmac mac ad)

-- the text with d xored onto its last 16 bytes (2.4, "xorend")
abbrev pub xored_end : List ℕ → List ℕ → List ℕ
xored_end text d = take (length text - 16) text ++ xor_bytes (drop (length text - 16) text) d

-- the vector of strings to a block (2.4)
unfoldable pub s2v : (List ℕ → List ℕ) → Option (List ℕ) → List ℕ → List ℕ
s2v mac ad text =
    if nat_lt (length text) 16 then cmac mac (xor_bytes (doubled (mixed mac ad)) (padded text))
    else cmac mac (xored_end text (mixed mac ad))

-- the first counter: the tag with the top bit of each of its last two 32-bit words cleared (2.5)
abbrev pub first_counter : List ℕ → ℕ
first_counter tag = bit_and (number_of tag) (2 ^ 128 - 1 - 2 ^ 63 - 2 ^ 31)

-- n encrypted counters, counting up by one modulo 2^128 (2.5)
abbrev pub keystream : (List ℕ → List ℕ) → ℕ → ℕ → List ℕ
keystream ctr start n = flat_map (λ i. ctr (bytes_of 16 ((start + i) % 2 ^ 128))) (range_with_len 0 n)

-- a text xored with the keystream of a tag: encryption and decryption are one (2.5)
unfoldable pub counted : (List ℕ → List ℕ) → List ℕ → List ℕ → List ℕ
counted ctr tag text = xor_bytes text (keystream ctr (first_counter tag) ((length text + 15) / 16))

-- the tag, and the text encrypted (2.6)
unfoldable pub siv_sealed : (List ℕ → List ℕ) → (List ℕ → List ℕ) → Option (List ℕ) → List ℕ → List ℕ
siv_sealed mac ctr ad text = s2v mac ad text ++ counted ctr (s2v mac ad text) text

-- what the bytes after the tag decrypt to, right or wrong (2.7)
abbrev pub siv_text : (List ℕ → List ℕ) → List ℕ → List ℕ
siv_text ctr sealed = counted ctr (take 16 sealed) (drop 16 sealed)

-- the text, accepted if and only if its S2V is the tag that it came with (2.7)
unfoldable pub siv_opened : (List ℕ → List ℕ) → (List ℕ → List ℕ) → Option (List ℕ) → List ℕ → Option (List ℕ)
siv_opened mac ctr ad sealed = if bytes_eq (s2v mac ad (siv_text ctr sealed)) (take 16 sealed) then Some (siv_text ctr sealed) else None
