-- 01, Refusal numbers and their order: a question's own checks, 13 to 17. Assumes nothing.
use Rattle.std.specs.Prelude.{Bool, not, ◌&&◌, ◌||◌, ℕ, ltb, ℤ, Ok}
use Rattle.ground.specs.Guard.{given}
use Rattle.distance.specs.Distance.{latitude_ok, longitude_ok}
use Rattle.part73.specs.Classes.{is_class, is_zone, permits}
use Rattle.refusals.specs.Faults.{Verdict}
use Rattle.refusals.specs.declared.Fault.TheVariants.{AskedChannel, AskedClass, AskedZone, NotPermitted, AskedSite}
use Rattle.stations.specs.Image.{faulty, then}

-- outside 221-300
abbrev pub outside : ℕ → Bool
outside channel = ltb channel 221 || ltb 300 channel

unfoldable pub site_ok : ℤ → ℤ → Bool
site_ok latitude longitude = latitude_ok latitude && longitude_ok longitude

-- the first that applies of 14 to 16
unfoldable pub class_fault : ℕ → ℕ → Verdict
class_fault class zone =
    given (not (is_class class)) (faulty AskedClass)
    (given (not (is_zone zone)) (faulty AskedZone)
    (given (not (permits zone class)) (faulty NotPermitted)
    (Ok tt)))

-- the first that applies of 13 to 16, for the new channels from first to last
unfoldable pub kind_fault : ℕ → ℕ → ℕ → ℕ → Verdict
kind_fault first last class zone =
    given (outside first || outside last || ltb last first) (faulty AskedChannel)
    (class_fault class zone)

-- 17
unfoldable pub site_fault : ℤ → ℤ → Verdict
site_fault latitude longitude = given (not (site_ok latitude longitude)) (faulty AskedSite) (Ok tt)

-- the first that applies of 13 to 17
unfoldable pub asked_fault : ℕ → ℕ → ℕ → ℕ → ℤ → ℤ → Verdict
asked_fault first last class zone latitude longitude = then (kind_fault first last class zone) (site_fault latitude longitude)
