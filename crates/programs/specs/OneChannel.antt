-- Inside: what one new channel adds to Arrange's text. Assumes nothing.
use Rattle.std.specs.Prelude.{Bool, true, false, List, ℕ}
use Rattle.desk.specs.Answers.{Outcome, grant, deny}
use Rattle.survey.specs.declared.Terms.{Terms}
use Rattle.asking.specs.Asking.{arrange_input}
use Rattle.telling.specs.Texts.{printed, lines_text}

unfoldable pub channel_text : Terms → List ℕ → ℕ → List ℕ
channel_text t input c = printed lines_text (arrange_input c c t input)

abbrev pub is_denied : Outcome → Bool
is_denied (grant vs) = false
is_denied (deny f) = true
