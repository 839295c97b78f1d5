use borrow.Author.Tests.{eq-eqb, ne_eqb}
use Rattle.ground.specs.Lists.{build}
use Rattle.part73.specs.TableA.{relations, relation, table_a}
use Rattle.part73.specs.Lesser.{lesser_relations, lesser}
use Rattle.part73.specs.Standards.{by_lesser}
use Rattle.part73.proofs.Chosen.{chosen-lesser, chosen-a}
use Rattle.squares.specs.Squares.{limit_of, squared_limits}
use Rattle.standards.proofs.squares_by.Goals as goal

-- `standards::squares_by` meets its contract: every entry is that of the definition, by computation. Assumes nothing.
pub returns-then-standard-eq-BY_LESSER : goal.returns-then-standard-eq-BY_LESSER
unfolding build relations relation table_a lesser_relations lesser limit_of squared_limits
returns-then-standard-eq-BY_LESSER c = rw (chosen-lesser _ (eq-eqb _ by_lesser c.if-standard-eq-BY_LESSER.true))

pub returns-else-standard-eq-BY_LESSER : goal.returns-else-standard-eq-BY_LESSER
returns-else-standard-eq-BY_LESSER c = rw (chosen-a _ (ne_eqb _ by_lesser c.if-standard-eq-BY_LESSER.false)) c.by_table_a.ensures
