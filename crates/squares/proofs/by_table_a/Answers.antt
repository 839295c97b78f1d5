use mathlib.Core.Path.{refl}
use Rattle.ground.specs.Lists.{build}
use Rattle.part73.specs.TableA.{relations, relation, table_a}
use Rattle.squares.specs.Squares.{limit_of, squared_limits}
use Rattle.squares.proofs.by_table_a.Goals as goal

-- `squares::by_table_a` meets its contract: every entry is that of the definition, by computation. Assumes nothing.
pub returns : goal.returns
unfolding build relations relation table_a limit_of squared_limits
returns c = refl
