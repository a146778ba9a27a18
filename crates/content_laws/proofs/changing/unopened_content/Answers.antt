use Rattle.tree_model.specs.Contents.{written, resized, written_cells, resized_cells}
use Rattle.content_laws.proofs.Cells.{unopened}
use Rattle.content_laws.proofs.changing.unopened_content.Goals as goal

pub returns-clause-written : goal.returns-clause-written
unfolding written
returns-clause-written c = λ keys bytes input at either. unopened (λ cells. written_cells cells at input) keys bytes either

pub returns-clause-resized : goal.returns-clause-resized
unfolding resized
returns-clause-resized c = λ keys bytes n either. unopened (λ cells. resized_cells cells n) keys bytes either
