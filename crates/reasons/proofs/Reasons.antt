-- The numbers of the reason: none where nobody is in the way, else those of the station that is named. So an answer names a station
-- of the table, or nobody. Assumes nothing.

use Rattle.std.specs.Prelude.{Option, Some, None, Ok, Err}
use Rattle.std.specs.List.{reduce}
use mathlib.Core.Path.{◌≡◌, sym, ap, ◌∙◌}
use mathlib.Core.Logic.{◌⊎◌, inl, inr}
use mathlib.Core.List.{List, [], map}
use Prim.Native.Nat.{ℕ}
use native.Mathlib.Omega.{arith}
use lib.ListN.{get_or}
use borrow.Author.Tests.{eq-eqb}
use Rattle.ground.specs.Lists.{◌∈◌, keep, each}
use Rattle.ground.proofs.Order.{in_keep}
use Rattle.ground.proofs.Positions.{position}
use Rattle.ground.proofs.Firsts.{some_at}
use Rattle.part73.specs.Standards.{chosen}
use Rattle.spacing.specs.Pair.{Assignment}
use Rattle.stations.specs.Image.{stations, count, Accepted}
use Rattle.stations.specs.Lists.{has_id}
use Rattle.stations.specs.declared.Station.{Station}
use Rattle.stations.proofs.Ids.{Ascends}
use Rattle.survey.specs.Ways.{near, looked, studied}
use Rattle.survey.proofs.Studied.{studied_ascend}
use Rattle.desk.specs.Answers.{grant}
use Rattle.studies.specs.Studies.{terms_asked, study_fault}
use Rattle.studies.proofs.Ways.{granted_was}
use Rattle.neighbours.specs.Neighbours.{neighbour_of}
use Rattle.neighbours.specs.Inside.{worse_of}
use Rattle.neighbours.specs.declared.Neighbour.{Neighbour}
use Rattle.checks.specs.Check.{asked, on_one}
use Rattle.checks.specs.declared.Proposal.{Proposal}
use Rattle.reasons.specs.Reason.{Why, worst, numbers_of, reason_for, outcome_of, reasoned_for}
use Rattle.reasons.specs.Inside.{Names}
use Rattle.reasons.specs.Meaning.{Named, studied_for}
use Rattle.reasons.proofs.Named.{worst_one}
use Rattle.reasons.proofs.Keeping.{kept-named}

module _ (p : Assignment) (km : ℕ → ℕ → ℕ → ℕ) (ss : List Station) where
  -- what is kept
  abbrev pub kept : Option Neighbour
  kept = reduce worse_of (map (neighbour_of km p) (keep (near km p) ss))

  -- nobody is in the way
  pub record Nobody : Type 0 where
    pub free : keep (near km p) ss ≡ []
    pub numbers : reason_for p km ss ≡ []
    pub keeps : kept ≡ None

  -- a station is named
  pub record Somebody : Type 0 where
    pub who : Station
    pub named : Named km p ss who
    pub numbers : reason_for p km ss ≡ numbers_of (neighbour_of km p who)
    pub keeps : kept ≡ Some (neighbour_of km p who)

  module _ (ids : Ascends ss) where
    -- the numbers of the station that is named
    pub reason_one : (r : Station) → Named km p ss r → reason_for p km ss ≡ numbers_of (neighbour_of km p r)
    unfolding reason_for each
    reason_one r n = rw (worst_one km p ss ids r n)

    pub told : Nobody ⊎ Somebody
    unfolding reason_for worst keep each
    told = go (kept-named km p ss ids)
      where
        go : ((keep (near km p) ss ≡ []) × (kept ≡ None)) ⊎ ((r : Station) × Named km p ss r × (kept ≡ Some (neighbour_of km p r))) → Nobody ⊎ Somebody
        go (inl w) = inl (record { free = w.0; numbers = rw w.0; keeps = w.1 })
        go (inr w) = inr (record { who = w.0; named = w.1; numbers = reason_one w.0 w.1; keeps = w.2 })

    -- what is kept is the reason
    pub kept_said : outcome_of (Ok kept) ≡ grant (reason_for p km ss)
    kept_said = go told
      where
        go : Nobody ⊎ Somebody → outcome_of (Ok kept) ≡ grant (reason_for p km ss)
        go (inl w) = rw (w.keeps, w.numbers)
        go (inr w) = rw (w.keeps, w.numbers)

-- ---- the answer

-- the neighbour that four numbers tell
abbrev pub neighbour_in : List ℕ → Neighbour
neighbour_in vs = record { id = get_or vs 0 0; distance = get_or vs 1 0; separation = get_or vs 2 0; column = get_or vs 3 0 }

pub never_empty : (n : Neighbour) → [] ≡ numbers_of n → ⊥
never_empty n e = let z : ◌≡◌ {A = ℕ} 0 1 = cc in omega arith

module _ (s : List ℕ) (p : Proposal) where
  -- "blocked" is said with the numbers of the station that is named
  pub record Blocking (n : Neighbour) : Type 0 where
    pub accepted : Accepted s
    pub sound : study_fault (stations s) (on_one p) ≡ (Ok tt)
    pub who : Station
    pub named : Named (chosen p.standard) (asked p) (studied_for s p) who
    pub is : n ≡ neighbour_of (chosen p.standard) (asked p) who

  pub blocking : (n : Neighbour) → outcome_of (Ok (Some n)) ≡ reasoned_for s p → Blocking n
  unfolding reasoned_for
  blocking n e =
      let g = granted_was s (on_one p) (reason_for (asked p)) (numbers_of n) (sym e) in
      go g.0 g.1 g.2 (told (asked p) (chosen p.standard) (studied_for s p) (studied_ascend s (count s) g.0 (terms_asked (on_one p))))
    where
      go : Accepted s → study_fault (stations s) (on_one p) ≡ (Ok tt) → reason_for (asked p) (chosen p.standard) (studied_for s p) ≡ numbers_of n → Nobody (asked p) (chosen p.standard) (studied_for s p) ⊎ Somebody (asked p) (chosen p.standard) (studied_for s p) → Blocking n
      go a f q (inl w) = absurd (never_empty n (sym w.numbers ∙ q))
      go a f q (inr w) = record { accepted = a; sound = f; who = w.who; named = w.named; is = ap neighbour_in (sym q ∙ w.numbers) }

  -- it stands in the table, and so does its id
  pub stands-there : {r : Station} → r ∈ studied_for s p → r ∈ stations s
  unfolding studied
  stands-there {r} m = ((in_keep {x = r} (looked (terms_asked (on_one p))) (stations s)).0 m).0

  pub names : (w : Why) → outcome_of w ≡ reasoned_for s p → Names s w
  names (Ok None) e = tt
  names (Err f) e = tt
  names (Ok (Some n)) e =
      let b = blocking n e in
      let at = position (stations s) (stands-there b.named.stands) in
      record { accepted = b.accepted; present = some_at (has_id n.id) (stations s) at.0 b.who at.2 at.3 (eq-eqb b.who.id n.id (ap (λ (x : Neighbour). x.id) (sym b.is))) }
