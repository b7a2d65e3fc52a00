-- How a link state keeps its instances (RFC 2328 section 12.1).
use Rattle.std.specs.Prelude.{◌≡◌, ◌≢◌, ℕ, ◌≤◌, length, All, AllPairs}
use Rattle.rcp_model.specs.LinkState.{Kept, LinkState, most_routers}

-- each instance under its own router, each router once, no more routers than may be
pub record AreKeptByRouter (state : LinkState) : Type 0 where
  pub own : All (λ (entry : ℕ × Kept). entry.0 ≡ entry.1.lsa.key) state.routers
  pub once : AllPairs (λ (a b : ℕ × Kept). a.0 ≢ b.0) state.routers
  pub few : length state.routers ≤ most_routers
