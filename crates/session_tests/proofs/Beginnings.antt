-- Where a history begins that has no faults before it.
use Rattle.std.proofs.Common.{◌≡◌, ℕ, ◌+◌, List, [], ◌∷◌, arith}
use Rattle.tree_model.specs.History.{Origin}
use Rattle.shared_tree.specs.Joined.{AreSince}
use Rattle.shared_tree.specs.declared.workers.Worker.{Worker}

pub since_nothing : {N E K : Type 0} (faults_of : E → ℕ) (origin : Origin) (j : ℕ) (workers : List (Worker N E K)) → ((k : ℕ) → origin.entropy_faults k ≡ 0) → AreSince faults_of origin j workers
since_nothing faults_of origin j [] none = tt
since_nothing faults_of origin j (worker ∷ workers) none = (let here = none j in omega arith, since_nothing faults_of origin (j + 1) workers none)
