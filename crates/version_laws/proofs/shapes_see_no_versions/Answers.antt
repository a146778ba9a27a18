use Rattle.version_laws.proofs.Shapes.{paths_lead_to_same_rows, shapes_are_same, have_shape_too, distinct_are_apart}
use Rattle.version_laws.proofs.shapes_see_no_versions.Goals as goal

pub returns-clause-paths : goal.returns-clause-paths
returns-clause-paths c = paths_lead_to_same_rows

pub returns-clause-same : goal.returns-clause-same
returns-clause-same c = shapes_are_same

pub returns-clause-have : goal.returns-clause-have
returns-clause-have c = have_shape_too

pub returns-clause-apart : goal.returns-clause-apart
returns-clause-apart c = distinct_are_apart
