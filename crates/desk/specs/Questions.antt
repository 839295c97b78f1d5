-- The two questions without a buffer: read, and the distance of two sites. Assumes nothing.
use Rattle.std.specs.Prelude.{not, List, ℕ, ltb, ℤ, Ok, Err}
use Rattle.ground.specs.Guard.{given}
use Rattle.distance.specs.Distance.{S, D}
use Rattle.refusals.specs.Faults.{Answer, refusal}
use Rattle.refusals.specs.declared.Fault.TheVariants.{AskedSite, TooFar}
use Rattle.stations.specs.Image.{judged}
use Rattle.desk.specs.Asked.{site_ok}

-- the count, or the table's refusal
abbrev pub count_of : Answer → Answer
count_of (Ok n) = Ok n
count_of (Err f) = Err f

unfoldable pub read_of : List ℕ → Answer
read_of s = count_of (judged s)

-- D from 0 to 475; 17, then 24
unfoldable pub distance_of : ℤ → ℤ → ℤ → ℤ → Answer
distance_of lat1 lon1 lat2 lon2 =
    given (not (site_ok lat1 lon1)) (Err AskedSite)
    (given (not (site_ok lat2 lon2)) (Err AskedSite)
    (given (ltb 475 (D (S lat1 lon1 lat2 lon2))) (Err TooFar)
    (Ok (D (S lat1 lon1 lat2 lon2)))))
