-- A driver that goes on where its book ends.
use Rattle.std.specs.Prelude.{◌≡◌, ◌<◌, ◌⊎◌, List}
use Rattle.ent_tree.specs.declared.limits.TheConstants.{MOST_OPENING_ROWS}
use Rattle.ent_book.specs.Tables.{tables_database}
use Rattle.ent_book.specs.declared.table.NamedTable.{NamedTable}
use Rattle.ent_semantics.specs.declared.book.Book.{Book}
use Rattle.ent_protocol.specs.State.{State}
use Rattle.ent_renewal.specs.Renewal.{GoesOn, rows_together}
use Rattle.ent_driver.specs.declared.driver.Driver.{Driver}
use Rattle.ent_driver.specs.declared.driver.Driver.TheVariants as drivers
use Rattle.ent_driver.specs.declared.fault.DriverFault.{DriverFault}
use Rattle.ent_driver.specs.declared.fault.DriverFault.TheVariants.{Memory, TooManyRows, Vacant}

-- a core over the declarations of a book, whose tables are those that the book ends with
abbrev pub GoesOnFrom : Book (List NamedTable) → State → Type 0
GoesOnFrom book s = GoesOn book.opening.tables (tables_database book.database) s

-- memory ran out, or more rows stand in the book's tables together than an opening has
abbrev pub CannotGoOn : Book (List NamedTable) → DriverFault → Type 0
CannotGoOn book fault =
    (fault ≡ Memory)
    ⊎ ((fault ≡ TooManyRows)
    × (MOST_OPENING_ROWS < rows_together book.opening.tables (tables_database book.database)))

-- the book that was left goes on in a core, to which nothing was submitted
abbrev pub Renews : Driver → Driver → Type 0
Renews old new =
    (book : Book (List NamedTable)) × (s : State)
    × (old ≡ drivers.Closed book) × (new ≡ drivers.Open s) × GoesOnFrom book s

-- the book can't go on, or none is there
abbrev pub IsNotRenewed : Driver → DriverFault → Type 0
IsNotRenewed (drivers.Closed book) fault = CannotGoOn book fault
IsNotRenewed drivers.Vacant fault = fault ≡ Vacant
IsNotRenewed (drivers.Open s) fault = fault ≡ Vacant
