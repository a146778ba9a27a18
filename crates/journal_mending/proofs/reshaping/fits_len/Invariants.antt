use Rattle.std.proofs.Common.{◌≡◌, drop}
use Rattle.deeds.specs.Plain.{plain_ranges}
use Rattle.journal_mending.specs.Lengths.{fits_len}
use Rattle.journal_mending.proofs.reshaping.fits_len.Given as goal

abbrev pub invariant-loop-range : goal.invariant-loop-range
invariant-loop-range l = fits_len l.len (plain_ranges (drop l.range-index l.ranges)) l.by_then ≡ fits_len l.len (plain_ranges l.ranges) l.fn.have
