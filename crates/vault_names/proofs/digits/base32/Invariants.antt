use Rattle.std.proofs.Common.{◌≡◌, ℕ, ◌-◌, ◌/◌, ◌%◌, ◌^◌, ◌<◌, length, get_or}
use Rattle.aes_block.specs.Bytes.{number_of}
use Rattle.vault_names.specs.Folder.{base32_digit}
use Rattle.vault_names.proofs.digits.base32.Given as goal

abbrev pub invariant-loop-i : goal.invariant-loop-i
invariant-loop-i l = record {
  long : length l.digits ≡ 32;
  found : (k : ℕ) → k < l.i → get_or l.digits k 0 ≡ base32_digit (number_of l.hash / 32 ^ (31 - k) % 32);
}
