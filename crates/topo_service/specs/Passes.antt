-- A service and its passes as contracts see them.
use Rattle.std.specs.Prelude.{ℕ, ◌≡◌, List, []}
use Rattle.topo_core.specs.declared.calls.Call.{Call}
use Rattle.topo_core.specs.declared.calls.Entry.{Entry}
use Rattle.topo_core.specs.declared.calls.Reply.{Reply}
use Rattle.topo_price.specs.Prices.{Asking}
use Rattle.topo_rows.specs.Shown.{Shown}
use Rattle.topo_book.specs.Books.{BookState, IsLegalBook}
use Rattle.topo_service.specs.declared.pass.Receipt.{Receipt}

-- what answers the prices, how many passes may be given out, and how many were: these are numbered from 0
pub record ServiceState (F : Type 0) : Type 0 where
  pub tariff : F
  pub places : ℕ
  pub given : ℕ

-- a pass: its number, which is its caller's in entries, its receipts, and the accepted entries that it has seen
pub record PassState : Type 0 where
  pub number : ℕ
  pub receipts : List Receipt
  pub seen : List Entry

-- a service that begins, with as many places and no pass yet
abbrev pub begun : {F : Type 0} → F → ℕ → ServiceState F
begun tariff places = record { tariff = tariff; places = places; given = 0 }

-- the book of a service: it has the prices and the start, and is legal
pub record IsBookOf {F : Type 0} (answers : F → Asking) (prices : F) (beginning : Shown) (book : BookState F) : Type 0 where
  pub tariff : book.tariff ≡ prices
  pub start : book.start ≡ beginning
  pub legal : IsLegalBook answers book

-- a pass with this number that begins
pub record Begins (number : ℕ) (pass : PassState) : Type 0 where
  pub numbered : pass.number ≡ number
  pub receipts : pass.receipts ≡ []
  pub seen : pass.seen ≡ []

abbrev pub receipt_of : Call → Reply → Receipt
receipt_of call reply = record { call = call; reply = reply }

abbrev pub entry_of : ℕ → Call → Reply → Entry
entry_of caller call reply = record { caller = caller; call = call; reply = reply }
