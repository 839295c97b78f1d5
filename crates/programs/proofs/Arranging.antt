-- Arrange's text, one new channel after the other. Assumes nothing.
use mathlib.Core.Path.{◌≡◌, refl, sym, ap, ◌∙◌}
use mathlib.Core.Bool.{true, false, true≢false}
use mathlib.Core.List.{List, [], ◌∷◌, ◌++◌, append-nil}
use Prim.Native.Nat.{ℕ, ◌+◌, ◌-◌, ◌≤◌, ◌<◌}
use native.Mathlib.Numerals.{add-one}
use native.Mathlib.Omega.{arith}
use lib.ListN.{length, take, drop}
use Rattle.ground.specs.Lists.{span, each}
use Rattle.ground.specs.Rows.{Row, flat}
use Rattle.ground.proofs.Spans.{span_cons, span-done, each-each}
use Rattle.part73.specs.Channels.{lowest, highest, new_channels}
use Rattle.stations.specs.Image.{stations}
use Rattle.marking.specs.Marks.{Asked}
use Rattle.survey.specs.Ways.{studied, chosen_for}
use Rattle.survey.specs.declared.Terms.{Terms}
use Rattle.refusals.specs.Faults.{refusal}
use Rattle.desk.specs.Answers.{Outcome, grant, deny}
use Rattle.studies.specs.Studies.{asked}
use Rattle.arrangements.specs.Arrange.{arranged, arrangements}
use Rattle.lines.specs.Lines.{row_line, refused_line}
use Rattle.streams.specs.Pieces.{Telling}
use Rattle.asking.specs.Asking.{wanted_of, arrange_input}
use Rattle.asking.proofs.Fitting.{one_channel}
use Rattle.asking.proofs.OneByOne.{rows_of, regrant, alike}
use Rattle.telling.specs.Texts.{printed, lines_text}
use Rattle.programs.specs.OneChannel.{channel_text, is_denied}
use Rattle.programs.specs.Printed.{printed_arrange}

-- ---- the lines of rows, as records

abbrev row_text : Row → List ℕ
row_text r = row_line r.a r.b r.c

lines_flat : (rs : List Row) → lines_text (flat rs) ≡ each row_text rs
unfolding lines_text flat each
lines_flat [] = refl
lines_flat (r ∷ rs) = ap (λ (l : List ℕ). row_text r ++ l) (lines_flat rs)

-- ---- the range, and its channels

whole_range : Asked (record { first = lowest; last = highest })
whole_range = record { low = omega arith; some = omega arith; high = omega arith }

one_of : {c : ℕ} → lowest ≤ c → c ≤ highest → Asked (record { first = c; last = c })
one_of lo hi = record { low = lo; some = omega arith; high = hi }

module _ (terms : Terms) (input : List ℕ) where
  -- the outcome for the whole range
  abbrev all : Outcome
  all = arrange_input lowest highest terms input

  -- the rows of a new channel
  rows_on : ℕ → List Row
  rows_on = arranged (chosen_for terms) (asked (wanted_of lowest highest terms input)) (studied terms (stations (drop 10 input)))

  rows_one : (c : ℕ) → lines_text (rows_of terms input c c) ≡ each row_text (rows_on c)
  unfolding rows_of rows_on
  rows_one c = lines_flat _ ∙ ap (each row_text) (one_channel (chosen_for terms) (asked (wanted_of lowest highest terms input)) (studied terms (stations (drop 10 input))) c)

  rows_all : lines_text (rows_of terms input lowest highest) ≡ each (λ c. each row_text (rows_on c)) new_channels
  unfolding rows_of rows_on arrangements
  rows_all = lines_flat _ ∙ each-each _ row_text new_channels

  module _ (c : ℕ) (lo : lowest ≤ c) (hi : c ≤ highest) where
    channel_alike : arrange_input c c terms input ≡ regrant (rows_of terms input c c) all
    channel_alike = alike whole_range (one_of lo hi) terms input

    denied_alike : is_denied (arrange_input c c terms input) ≡ is_denied all
    denied_alike = ap is_denied channel_alike ∙ go all
      where
        go : (o : Outcome) → is_denied (regrant (rows_of terms input c c) o) ≡ is_denied o
        go (grant vs) = refl
        go (deny f) = refl

    -- the text of a new channel, by the outcome for the whole range
    channel_text_lem : channel_text terms input c ≡ printed (λ vs. each row_text (rows_on c)) all
    unfolding channel_text
    channel_text_lem = ap (printed lines_text) channel_alike ∙ go all
      where
        go : (o : Outcome) → printed lines_text (regrant (rows_of terms input c c) o) ≡ printed (λ vs. each row_text (rows_on c)) o
        go (grant vs) = rows_one c
        go (deny f) = refl

  -- ---- the walk over the new channels

  -- the text that is left from a new channel on, or the refusal's line
  pub left_from : ℕ → List ℕ
  left_from c = printed (λ vs. each (λ m. each row_text (rows_on m)) (span c (highest + 1 - c))) all

  pub left_first : printed_arrange terms input ≡ left_from lowest
  unfolding printed_arrange left_from
  left_first = ap (printed lines_text) (alike whole_range whole_range terms input) ∙ go all
    where
      go : (o : Outcome) → printed lines_text (regrant (rows_of terms input lowest highest) o) ≡ printed (λ vs. each (λ m. each row_text (rows_on m)) new_channels) o
      go (grant vs) = rows_all
      go (deny f) = refl

  module _ (c : ℕ) (lo : lowest ≤ c) (hi : c ≤ highest) where
    -- a new channel that is refused: its line is what is left
    pub left_denied : is_denied (arrange_input c c terms input) ≡ true → left_from c ≡ channel_text terms input c ++ []
    unfolding left_from
    left_denied d = go all (sym (denied_alike c lo hi) ∙ d) ∙ sym (ap (λ (l : List ℕ). l ++ []) (channel_text_lem c lo hi))
      where
        go : (o : Outcome) → is_denied o ≡ true → printed (λ vs. each (λ m. each row_text (rows_on m)) (span c (highest + 1 - c))) o ≡ printed (λ vs. each row_text (rows_on c)) o ++ []
        go (deny f) b = sym (append-nil (refused_line (refusal f)))
        go (grant vs) b = absurd (true≢false (sym b))

    -- one that is not: none is, and its lines are told
    pub all_granted : is_denied (arrange_input c c terms input) ≡ false → is_denied all ≡ false
    all_granted d = sym (denied_alike c lo hi) ∙ d

    pub left_next : is_denied (arrange_input c c terms input) ≡ false → left_from c ≡ channel_text terms input c ++ left_from (c + 1)
    unfolding left_from each
    left_next d = go all (all_granted d) ∙ sym (ap (λ (l : List ℕ). l ++ left_from (c + 1)) (channel_text_lem c lo hi))
      where
        on : ℕ → List ℕ
        on m = each (λ k. each row_text (rows_on k)) (span m (highest + 1 - m))

        go : (o : Outcome) → is_denied o ≡ false → printed (λ vs. on c) o ≡ printed (λ vs. each row_text (rows_on c)) o ++ printed (λ vs. on (c + 1)) o
        go (deny f) b = absurd (true≢false b)
        go (grant vs) b = ap (each (λ k. each row_text (rows_on k))) (span_cons c (highest + 1) (omega arith)) ∙ ap (λ (k : ℕ). each row_text (rows_on c) ++ on k) (sym (add-one c))

  pub left_last : (c : ℕ) → highest < c → is_denied all ≡ false → left_from c ≡ []
  unfolding left_from each
  left_last c h d = go all d
    where
      go : (o : Outcome) → is_denied o ≡ false → printed (λ vs. each (λ m. each row_text (rows_on m)) (span c (highest + 1 - c))) o ≡ []
      go (deny f) b = absurd (true≢false b)
      go (grant vs) b = ap (each (λ m. each row_text (rows_on m))) (span-done c (highest + 1) (omega arith))

-- ---- where the lines of the new channels before one are told or wait
pub record Turns (text₀ input : List ℕ) (terms : Terms) (mark₀ : ℕ) (text : List ℕ) (mark at channel : ℕ) : Type 0 where
  pub low : lowest ≤ channel
  pub high : channel ≤ highest + 1
  pub long : length text ≡ length text₀
  pub place : at ≤ length text
  -- past the first of them nothing is refused
  pub granted : lowest < channel → is_denied (arrange_input lowest highest terms input) ≡ false
  pub telling : Telling (printed_arrange terms input) mark₀ mark (take at text) (left_from terms input channel)
