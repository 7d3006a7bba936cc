-- The calls on a shelf, with whatever numbers are handed in.
use Rattle.std.specs.Prelude.{ℕ}
use Rattle.rulebook.specs.Books.{Rules}
use Rattle.rulebook.specs.declared.case.Case.{Case}
use Rattle.shelf.specs.declared.request.Request.{Request}
use Rattle.shelf.specs.declared.request.Request.TheVariants as request

pub data Call (I : Type 0) : Type 0 where
  receives : (place count : ℕ) → Call I
  -- under a book's rules
  picks : Rules I → Case → Call I
  -- of a slip with a shelf's number and a place
  orders : (number place : ℕ) → Call I
  returns : (number place : ℕ) → Call I
  -- the questions
  asks_place : (place : ℕ) → Call I
  asks_places : Call I

-- a call of a list that is served under one book
abbrev pub asked : {I : Type 0} → Rules I → Request → Call I
asked R (request.Receive place count) = receives place count
asked R (request.Pick c) = picks R c
asked R (request.Order number place) = orders number place
asked R (request.GiveBack number place) = returns number place
asked R (request.Place place) = asks_place place
asked R request.Places = asks_places
