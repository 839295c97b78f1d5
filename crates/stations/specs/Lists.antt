-- Lists of stations: where an id stands or would stand, who is movable, which records are twins, a record set in, taken out or on
-- another channel, and what it is that no pair is near. Assumes nothing.
use Rattle.std.specs.Prelude.{◌≡◌, Bool, false, not, ◌&&◌, List, [], ◌∷◌, map, ℕ, ◌%◌, eqb, leb, ltb}
use Rattle.ground.specs.Guard.{given}
use Rattle.ground.specs.Lists.{◌∈◌, keep}
use Rattle.ground.specs.Signed.{eq_z}
use Rattle.stations.specs.declared.Station.{Station}

-- ---- by id

abbrev pub has_id : ℕ → Station → Bool
has_id id r = eqb r.id id

-- an id that is not below
abbrev pub from_id : ℕ → Station → Bool
from_id id r = leb id r.id

-- what is said of the record with an id, or of there being none
unfoldable pub with_id : {A : Type 0} → ℕ → List Station → A → (Station → A) → A
with_id id [] none one = none
with_id id (x ∷ xs) none one = given (has_id id x) (one x) (with_id id xs none one)

-- ---- one station

-- 01, The table image: flag bit 0 means fixed; a station is movable if it isn't fixed and its channel is above 220
unfoldable pub movable : Station → Bool
movable r = eqb (r.flags % 2) 0 && ltb 220 r.channel

-- a station on another channel: only that record's channel changes
abbrev pub onto : ℕ → Station → Station
onto channel r =
    record { id = r.id; channel = channel; class = r.class; flags = r.flags; latitude = r.latitude; longitude = r.longitude }

-- 02, R-7: two records that agree in channel, class, latitude and longitude; ids and flags are not compared
unfoldable pub twins : Station → Station → Bool
twins a b =
    eqb a.channel b.channel && eqb a.class b.class && eq_z a.latitude b.latitude && eq_z a.longitude b.longitude

-- ---- a changed list

-- the record set in at its place by id
unfoldable pub insert : Station → List Station → List Station
insert r [] = r ∷ []
insert r (x ∷ xs) = given (ltb r.id x.id) (r ∷ x ∷ xs) (x ∷ insert r xs)

-- the record with an id taken out
unfoldable pub without : ℕ → List Station → List Station
without id ss = keep (λ x. not (has_id id x)) ss

-- the record with an id on another channel
abbrev pub onto_if : ℕ → ℕ → Station → Station
onto_if id channel x = given (has_id id x) (onto channel x) x

unfoldable pub rechannel : ℕ → ℕ → List Station → List Station
rechannel id channel ss = map (onto_if id channel) ss

-- ---- pairs

module _ (near : Station → Station → Bool) where
  -- apart from all of a list
  unfoldable pub Apart : Station → List Station → Type 0
  Apart r ss = (x : Station) → x ∈ ss → near r x ≡ false

  -- no pair of a list is near
  unfoldable pub NoPair : List Station → Type 0
  NoPair [] = Unit {0}
  NoPair (x ∷ xs) = Apart x xs × NoPair xs
