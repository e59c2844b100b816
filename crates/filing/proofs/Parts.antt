-- Coordinates and determinants are the same where their parts are. Assumes nothing.
use mathlib.Core.Path.{◌≡◌}
use Rattle.filing.specs.declared.Coordinates.{Coordinates}
use Rattle.filing.specs.declared.Determinants.{Determinants}

pub coordinates_path : {a b : Coordinates} → a.x ≡ b.x → a.y ≡ b.y → a.z ≡ b.z → a ≡ b
coordinates_path p q r = λ i. record { x = p i; y = q i; z = r i }

pub dets_path : {D E : Determinants} → D.d1 ≡ E.d1 → D.d2 ≡ E.d2 → D.d3 ≡ E.d3 → D ≡ E
dets_path p q r = λ i. record { d1 = p i; d2 = q i; d3 = r i }
