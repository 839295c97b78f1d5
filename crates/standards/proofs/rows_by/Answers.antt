use borrow.Author.Tests.{eq-eqb, ne_eqb}
use Rattle.ground.specs.Lists.{build}
use Rattle.part73.specs.TableA.{relations, relation, table_a}
use Rattle.part73.specs.Lesser.{lesser_relations, lesser}
use Rattle.part73.specs.Standards.{by_lesser}
use Rattle.part73.specs.Reading.{rows_of}
use Rattle.part73.proofs.Chosen.{chosen-lesser, chosen-a}
use Rattle.standards.proofs.rows_by.Goals as goal

-- `standards::rows_by` meets its contract: the code's rows are the document's, with Table A's last column. Assumes nothing.
pub returns-then-standard-eq-BY_LESSER : goal.returns-then-standard-eq-BY_LESSER
unfolding build rows_of relations relation table_a lesser_relations lesser
returns-then-standard-eq-BY_LESSER c = rw (chosen-lesser _ (eq-eqb _ by_lesser c.if-standard-eq-BY_LESSER.true))

pub returns-else-standard-eq-BY_LESSER : goal.returns-else-standard-eq-BY_LESSER
returns-else-standard-eq-BY_LESSER c = rw (chosen-a _ (ne_eqb _ by_lesser c.if-standard-eq-BY_LESSER.false)) c.table_rows.ensures
