-- Ranges that are written in order, by the file's length alone.
use Rattle.std.specs.Prelude.{ℕ, ◌+◌, max, [], ◌∷◌, length, Bool, ◌&&◌, nat_le}
use Rattle.deeds.specs.Reshape.{Ranges}

-- each begins within a file that has so many bytes by then, and ends within its length in the end, for which there are then enough
abbrev pub fits_len : ℕ → Ranges → ℕ → Bool
fits_len len [] have = nat_le len have
fits_len len (r ∷ rs) have = (nat_le r.0 have && nat_le (r.0 + length r.1) len) && fits_len len rs (max have (r.0 + length r.1))
