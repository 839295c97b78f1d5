-- 01, Distance in whole numbers: 47 CFR 73.208(c) in integers, steps 1 to 6, with the longitude difference of 02, R-4.
-- Latitude and longitude are signed seconds of arc, north and east positive. `a ÷ b` cuts toward zero. Assumes nothing.
use Rattle.std.specs.Prelude.{ℕ, zero, suc, ◌+◌, ◌-◌, ◌*◌, ◌/◌, ◌<◌, ◌≤◌, ℤ, pos, nat_abs, ◌+ℤ◌, ◌-ℤ◌, ◌*ℤ◌, leb, ltb, Bool, true, false}
use Rattle.std.specs.Int.Signed.{quot_z}

infixl 7 ◌÷◌
abbrev pub ◌÷◌ : ℤ → ℕ → ℤ
a ÷ b = quot_z a (pos b)

abbrev pub E : ℕ
E = 1000000000

abbrev pub pick : Bool → ℕ → ℕ → ℕ
pick true a b = a
pick false a b = b

-- latitude -270,000 to 270,000, longitude -648,000 to 648,000
unfoldable pub latitude_ok : ℤ → Bool
latitude_ok lat = leb (nat_abs lat) 270000

unfoldable pub longitude_ok : ℤ → Bool
longitude_ok lon = leb (nat_abs lon) 648000

-- the same of a site, as facts
pub record Placed (lat lon : ℤ) : Type 0 where
  pub north : nat_abs lat ≤ 270000
  pub east : nat_abs lon ≤ 648000

-- 1. h is the mean latitude in half-seconds; x is the same angle in units of 1 / E
abbrev pub h_of : ℤ → ℤ → ℕ
h_of lat1 lat2 = nat_abs (lat1 +ℤ lat2)

abbrev pub x_of : ℕ → ℕ
x_of h = h * 2424068405548 / E

-- 2. the terms of the series, each from the one before it, whose index is k; and its sum
abbrev pub next : ℕ → ℕ → ℕ → ℕ
next t x d = t * x / E * x / E / d

unfoldable pub t : ℕ → ℕ → ℕ
t x zero = E
t x (suc k) = next (t x k) x ((2 * k + 1) * (2 * k + 2))

unfoldable pub series : ℕ → ℤ
series x =
    pos (t x 0) -ℤ pos (t x 1) +ℤ pos (t x 2) -ℤ pos (t x 3) +ℤ pos (t x 4)
    -ℤ pos (t x 5) +ℤ pos (t x 6) -ℤ pos (t x 7) +ℤ pos (t x 8) -ℤ pos (t x 9)

-- 3. the cosines of 1 to 5 times the mean latitude
unfoldable pub c1 : ℕ → ℤ
c1 h = series (x_of h)

unfoldable pub c2 : ℕ → ℤ
c2 h = pos 2 *ℤ (c1 h *ℤ c1 h ÷ E) -ℤ pos E

unfoldable pub c4 : ℕ → ℤ
c4 h = pos 2 *ℤ (c2 h *ℤ c2 h ÷ E) -ℤ pos E

unfoldable pub c3 : ℕ → ℤ
c3 h = pos 2 *ℤ (c1 h *ℤ c2 h ÷ E) -ℤ c1 h

unfoldable pub c5 : ℕ → ℤ
c5 h = pos 2 *ℤ (c1 h *ℤ c4 h ÷ E) -ℤ c3 h

-- 4. the length of a degree of latitude and of longitude, in 10^-7 km
unfoldable pub P : ℕ → ℤ
P h = pos 1111320900 -ℤ pos 5660500 *ℤ c2 h ÷ E +ℤ pos 12000 *ℤ c4 h ÷ E

unfoldable pub Q : ℕ → ℤ
Q h = pos 1114151300 *ℤ c1 h ÷ E -ℤ pos 945500 *ℤ c3 h ÷ E +ℤ pos 1200 *ℤ c5 h ÷ E

-- 5. in decimetres: the differences; S is the square of the distance
abbrev pub lat_gap : ℤ → ℤ → ℕ
lat_gap lat1 lat2 = nat_abs (lat1 -ℤ lat2)

-- 02, R-4: a longitude difference over 648,000 is replaced by 1,296,000 less it
abbrev pub short_way : ℕ → ℕ
short_way d = pick (ltb 648000 d) (1296000 - d) d

unfoldable pub lon_gap : ℤ → ℤ → ℕ
lon_gap lon1 lon2 = short_way (nat_abs (lon1 -ℤ lon2))

unfoldable pub NS : ℤ → ℤ → ℤ
NS lat1 lat2 = pos (lat_gap lat1 lat2) *ℤ P (h_of lat1 lat2) ÷ 3600000

unfoldable pub EW : ℤ → ℤ → ℤ → ℤ → ℤ
EW lat1 lon1 lat2 lon2 = pos (lon_gap lon1 lon2) *ℤ Q (h_of lat1 lat2) ÷ 3600000

unfoldable pub S : ℤ → ℤ → ℤ → ℤ → ℕ
S lat1 lon1 lat2 lon2 =
    nat_abs (NS lat1 lat2) * nat_abs (NS lat1 lat2) + nat_abs (EW lat1 lon1 lat2 lon2) * nat_abs (EW lat1 lon1 lat2 lon2)

-- 6. D is the rounded distance of S, in km
pub record Rounded (S D : ℕ) : Type 0 where
  pub under : S < (10000 * D + 5000) * (10000 * D + 5000)
  pub over : 0 < D → (10000 * D - 5000) * (10000 * D - 5000) ≤ S

-- the same as a function: the whole root of S, of at most 32 binary digits, rounded to 10,000, a half up.
-- `D_is` and `unique` of proofs/Rounding: it is step 6's number, and there is no other
abbrev pub digit : ℕ → ℕ → ℕ
digit S r = pick (ltb S ((r + 1) * (r + 1))) r (r + 1)

unfoldable pub root : ℕ → ℕ → ℕ
root zero S = 0
root (suc n) S = digit S (2 * root n (S / 4))

unfoldable pub D : ℕ → ℕ
D S = (root 32 S + 5000) / 10000
