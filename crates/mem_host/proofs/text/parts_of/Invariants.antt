use Rattle.std.proofs.Common.{◌≡◌, ◌++◌, ◌∷◌, length, IsTrue}
use Rattle.std.specs.List.{flat_map}
use Rattle.vault_path.specs.Parts.{is_path}
use Rattle.mem_host.proofs.text.parts_of.Given as goal

abbrev pub invariant-loop-first : goal.invariant-loop-first
invariant-loop-first l = record {
  good : IsTrue (is_path l.path);
  is : flat_map (λ part. 47 ∷ part) l.path ++ l.left ≡ l.rest;
}

abbrev pub decreases-loop-first : goal.decreases-loop-first
decreases-loop-first l = length l.left
