-- What a handle ends as whose store is lent.
use Rattle.std.specs.Prelude.{Some}
use Rattle.std.specs.Borrow.{Lends, MutBor, Fml}
use Rattle.l6_store.specs.BuddyStore.{BuddyStore}
use Rattle.l6_store.specs.contracts.buddy.Buddy as buddy
use Rattle.l6_store_c.specs.declared.handle.Handle.{Handle}
use Rattle.l6_store_c.specs.contracts.handle.Handle as handle

-- a handle with another store at its place
abbrev pub with_store : Handle → BuddyStore → Handle
with_store handle store = record handle { held = Some store }

-- the handle ends with the store as it was left
abbrev pub LendsStore : MutBor Handle → MutBor BuddyStore → Fml
LendsStore lender lent = Lends handle.the_row buddy.the_row lender lent (with_store lender.now)
