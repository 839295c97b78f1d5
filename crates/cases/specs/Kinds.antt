-- The kinds of questions.
use Rattle.std.specs.Prelude.{ℕ}
use Rattle.cases.specs.declared.question.Kind.{Kind}
use Rattle.cases.specs.declared.question.Kind.TheVariants.{Read, Distance, Add, Withdraw, Move, Check, Arrange, Reason}

-- the number of a kind, in the order of the questions
abbrev pub kind_number : Kind → ℕ
kind_number Read = 0
kind_number Distance = 1
kind_number Add = 2
kind_number Withdraw = 3
kind_number Move = 4
kind_number Check = 5
kind_number Arrange = 6
kind_number Reason = 7
