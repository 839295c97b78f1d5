-- 01, The table image: the image of a list of stations. Assumes nothing.
use Rattle.std.specs.Prelude.{List, ◌∷◌, ◌++◌, ℕ, length}
use Rattle.std.specs.Int.{w32}
use Rattle.std.proofs.Common.{of_z}
use Rattle.ground.specs.Lists.{each}
use Rattle.wire.specs.Be.{bytes}
use Rattle.versions.specs.Version.{version_for}
use Rattle.stations.specs.declared.Station.{Station}

-- the sixteen bytes of a record
unfoldable pub record_of : Station → List ℕ
record_of r =
    bytes 4 r.id ++ (bytes 2 r.channel ++ (r.class ∷ r.flags ∷ (bytes 4 (of_z w32 r.latitude) ++ bytes 4 (of_z w32 r.longitude))))

-- `FMS`, the version, a zero byte, the count
unfoldable pub header_of : ℕ → ℕ → List ℕ
header_of v n = 70 ∷ 77 ∷ 83 ∷ (bytes 2 v ++ 0 ∷ bytes 2 n)

-- the version that a list calls for
unfoldable pub version_of : List Station → ℕ
version_of rs = version_for (length rs)

unfoldable pub encode : List Station → List ℕ
encode rs = header_of (version_of rs) (length rs) ++ each record_of rs
