-- Routes over a network's open roads, and when they arrive.
use Rattle.std.specs.Prelude.{◌≡◌, ℕ, ◌+◌, ◌*◌, ◌<◌, ◌≤◌, Bool, true}
use Rattle.network.specs.Net.{Net}

-- A route over open roads from the node o, by its last node and how many roads it has.
pub data Route (net : Net) (isOpen : ℕ → Bool) (o : ℕ) : ℕ → ℕ → Type 0 where
  stay : Route net isOpen o o 0
  then : {u j : ℕ} → Route net isOpen o u j → (r : ℕ) → r < net.roads → isOpen r ≡ true → net.tail r ≡ u → Route net isOpen o (net.head r) (j + 1)

-- when it arrives, having set out at t: each road is entered when the one before is crossed
abbrev pub arrival : {net : Net} {isOpen : ℕ → Bool} {o v j : ℕ} → Route net isOpen o v j → ℕ → ℕ
arrival stay t = t
arrival {net} (then ρ r a b c) t = net.cross r (arrival ρ t)

-- the same with every road r taking d r minutes more
abbrev pub later : {net : Net} {isOpen : ℕ → Bool} {o v j : ℕ} → (ℕ → ℕ) → Route net isOpen o v j → ℕ → ℕ
later d stay t = t
later {net} d (then ρ r a b c) t = net.cross r (later d ρ t) + d r

-- some route over open roads from o is at v by minute a, having set out at t
pub record Comes (net : Net) (isOpen : ℕ → Bool) (o v t a : ℕ) : Type 0 where
  pub count : ℕ
  pub route : Route net isOpen o v count
  pub by : arrival route t ≤ a

-- a is the earliest arrival: some route attains it, and no route arrives before
pub record Earliest (net : Net) (isOpen : ℕ → Bool) (o v t a : ℕ) : Type 0 where
  pub count : ℕ
  pub route : Route net isOpen o v count
  pub attains : arrival route t ≡ a
  pub least : (j : ℕ) (ρ : Route net isOpen o v j) → a ≤ arrival ρ t

-- entering an open road a minute later costs at most K minutes
abbrev pub Climbs : Net → (ℕ → Bool) → ℕ → Type 0
Climbs net isOpen K = (r x : ℕ) → r < net.roads → isOpen r ≡ true → net.cross r (x + 1) ≤ net.cross r x + K

-- no overtaking along whole routes: who sets out later on a route is not there earlier
abbrev pub KeepsOrder : Net → Type 0
KeepsOrder net = (isOpen : ℕ → Bool) (o v j : ℕ) (ρ : Route net isOpen o v j) (t u : ℕ) → t ≤ u → arrival ρ t ≤ arrival ρ u

-- a route of j roads takes from j to 10,000 × j minutes
abbrev pub KeepsPace : Net → Type 0
KeepsPace net = (isOpen : ℕ → Bool) (o v j : ℕ) (ρ : Route net isOpen o v j) (t : ℕ) → (t + j ≤ arrival ρ t) × (arrival ρ t ≤ t + 10000 * j)
