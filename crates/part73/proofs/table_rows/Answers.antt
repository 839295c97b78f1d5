use mathlib.Core.Path.{refl}
use Rattle.ground.specs.Lists.{build}
use Rattle.part73.specs.TableA.{relations, relation, table_a}
use Rattle.part73.specs.Reading.{rows_of}
use Rattle.part73.proofs.table_rows.Goals as goal

-- `part73::table_rows` meets its contract: the code's rows are the document's. Assumes nothing.
pub returns : goal.returns
unfolding build rows_of relations relation table_a
returns c = refl
