-- Darts under new numbers: what is counted and what is joined stays.
use Rattle.std.specs.Prelude.{◌≡◌, ◌↔◌, ℕ, ◌%◌, ◌<◌, Bool, true}
use Rattle.topo_core.specs.Cycles.{IsPermutation, SameCycle, class_count, cycle_count}
use Rattle.topo_core.specs.Rotations.{twin, face_next, Joined}
use Rattle.topo_perm.specs.Joins.{IsConnectedAmong}
use Rattle.topo_perm.specs.Live.{live_class_count, live_cycle_count}

-- r is an equivalence of the numbers below n
pub record IsEquivalence (r : ℕ → ℕ → Bool) (n : ℕ) : Type 0 where
  pub reflexive : (a : ℕ) → a < n → r a a ≡ true
  pub symmetric : (a b : ℕ) → a < n → b < n → r a b ≡ true → r b a ≡ true
  pub transitive : (a b c : ℕ) → a < n → b < n → c < n → r a b ≡ true → r b c ≡ true → r a c ≡ true

-- h gives the numbers below n new ones, which are the live numbers below m, and `back` the old ones again
pub record IsRenumbering (h back : ℕ → ℕ) (n : ℕ) (live : ℕ → Bool) (m : ℕ) : Type 0 where
  pub within : (a : ℕ) → a < n → h a < m
  pub alive : (a : ℕ) → a < n → live (h a) ≡ true
  pub returns : (a : ℕ) → a < n → back (h a) ≡ a
  pub back_within : (y : ℕ) → y < m → live y ≡ true → back y < n
  pub back_returns : (y : ℕ) → y < m → live y ≡ true → h (back y) ≡ y

-- g does to the new numbers what f does to the old ones
pub record IsCarried (h f g : ℕ → ℕ) (n : ℕ) : Type 0 where
  pub each : (a : ℕ) → a < n → g (h a) ≡ h (f a)

-- a renumbering of a map
pub record Renumbers (h back f g : ℕ → ℕ) (n : ℕ) (live : ℕ → Bool) (m : ℕ) : Type 0 where
  pub before : IsPermutation f n
  pub after : IsPermutation g m
  pub numbers : IsRenumbering h back n live m
  pub map : IsCarried h f g n

-- a renumbering of a turn, which keeps the darts of a segment together
pub record RenumbersTurn (h back f g : ℕ → ℕ) (n : ℕ) (live : ℕ → Bool) (m : ℕ) : Type 0 where
  pub turn : Renumbers h back f g n live m
  pub even : n % 2 ≡ 0
  pub after_even : m % 2 ≡ 0
  pub twins : IsCarried h twin twin n

-- related numbers get related ones, and a live number is related to live ones alone
pub record CarriesClasses (h back : ℕ → ℕ) (r s : ℕ → ℕ → Bool) (n : ℕ) (live : ℕ → Bool) (m : ℕ) : Type 0 where
  pub numbers : IsRenumbering h back n live m
  pub before : IsEquivalence r n
  pub after : IsEquivalence s m
  pub same : (a b : ℕ) → a < n → b < n → s (h a) (h b) ≡ r a b
  pub apart : (y z : ℕ) → y < m → z < m → live z ≡ true → s y z ≡ true → live y ≡ true

abbrev pub RenumberedClasses : Type 0
RenumberedClasses = (h back : ℕ → ℕ) (r s : ℕ → ℕ → Bool) (n : ℕ) (live : ℕ → Bool) (m : ℕ) → CarriesClasses h back r s n live m
    → class_count r n ≡ live_class_count live s m

abbrev pub RenumberedSameCycle : Type 0
RenumberedSameCycle = (h back f g : ℕ → ℕ) (n : ℕ) (live : ℕ → Bool) (m a b : ℕ) → Renumbers h back f g n live m → a < n → b < n → SameCycle f a b
    ↔ SameCycle g (h a) (h b)

abbrev pub RenumberedCycles : Type 0
RenumberedCycles = (h back f g : ℕ → ℕ) (n : ℕ) (live : ℕ → Bool) (m : ℕ) → Renumbers h back f g n live m → cycle_count f n ≡ live_cycle_count live g m

-- where all numbers below m are live
abbrev pub RenumberedWhole : Type 0
RenumberedWhole = (h back f g : ℕ → ℕ) (n m : ℕ) → Renumbers h back f g n (λ _. true) m → cycle_count f n ≡ cycle_count g m

abbrev pub RenumberedFaces : Type 0
RenumberedFaces = (h back f g : ℕ → ℕ) (n : ℕ) (live : ℕ → Bool) (m : ℕ) → RenumbersTurn h back f g n live m
    → Renumbers h back (face_next f) (face_next g) n live m

abbrev pub RenumberedJoined : Type 0
RenumberedJoined = (h back f g : ℕ → ℕ) (n : ℕ) (live : ℕ → Bool) (m a b : ℕ) → RenumbersTurn h back f g n live m → a < n → b < n → Joined f twin a b
    ↔ Joined g twin (h a) (h b)

abbrev pub RenumberedConnected : Type 0
RenumberedConnected = (h back f g : ℕ → ℕ) (n : ℕ) (live : ℕ → Bool) (m : ℕ) → RenumbersTurn h back f g n live m → IsConnectedAmong (λ _. true) f n
    ↔ IsConnectedAmong live g m
