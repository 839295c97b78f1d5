-- 01, The programs; 02, R-1, R-2, R-6: all that a program prints, as one list of bytes, from its whole input. Assumes nothing.
use Rattle.std.specs.Prelude.{List, ℕ, drop}
use Rattle.survey.specs.declared.Terms.{Terms}
use Rattle.part73.specs.Channels.{lowest, highest}
use Rattle.asking.specs.Asking.{plain, check_input, reason_input, standard_of, arrange_input, change_input, distance_input}
use Rattle.subjects.specs.Subjects.{after_terms, subject_of}
use Rattle.subjects.specs.declared.Subject.{Subject}
use Rattle.subjects.specs.declared.Subject.TheVariants.{Check as Check', Arrange as Arrange', Distance}
use Rattle.programs.specs.declared.Program.{Program}
use Rattle.programs.specs.declared.Program.TheVariants.{Check, Arrange, Change, Study, Reason}
use Rattle.telling.specs.Texts.{printed, lines_text, short_text, reason_text, image_text, distance_text}

-- `short K`, and K lines
unfoldable pub printed_check : Terms → List ℕ → List ℕ
printed_check t input = printed short_text (check_input t input)

-- `clear`, or `id D R column standard`
unfoldable pub printed_reason : List ℕ → List ℕ
printed_reason input = printed (reason_text (standard_of input)) (reason_input input)

-- the lines of all arrangements on the new channels from 221 to 300
unfoldable pub printed_arrange : Terms → List ℕ → List ℕ
printed_arrange t input = printed lines_text (arrange_input lowest highest t input)

-- the new image
unfoldable pub printed_change : List ℕ → List ℕ
printed_change input = printed image_text (change_input input)

-- D, on a line
unfoldable pub printed_distance : List ℕ → List ℕ
printed_distance input = distance_text (distance_input input)

-- a study prints, of what follows letter and terms, what the program of 01 prints
abbrev pub printed_as : Subject → List ℕ → List ℕ
printed_as (Check' t) input = printed_check t (drop after_terms input)
printed_as (Arrange' t) input = printed_arrange t (drop after_terms input)
printed_as Distance input = printed_distance input

unfoldable pub printed_study : List ℕ → List ℕ
printed_study input = printed_as (subject_of input) input

unfoldable pub printed_by : Program → List ℕ → List ℕ
printed_by Check = printed_check plain
printed_by Arrange = printed_arrange plain
printed_by Change = printed_change
printed_by Study = printed_study
printed_by Reason = printed_reason
