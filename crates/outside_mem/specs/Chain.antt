-- The links of a chain.
use Rattle.std.specs.Prelude.{List, [], ◌∷◌}
use Rattle.outside_mem.specs.Links.{Ends}
use Rattle.outside_mem.specs.declared.link.Chain.{Chain, End, More'}

-- the newest first
abbrev pub newest_first : Chain → List Ends
newest_first End = []
newest_first (More' source sink p older) = record { source = source; sink = sink } ∷ newest_first older
