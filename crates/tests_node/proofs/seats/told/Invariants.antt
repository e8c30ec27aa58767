use Rattle.tests_node.proofs.seats.told.Given as goal

abbrev pub ghosts-two_threads-A-NodeLedger : goal.ghosts-two_threads-A-NodeLedger
ghosts-two_threads-A-NodeLedger g a = record { schema = a.spec }

abbrev pub ghosts-two_threads-A-Ledger : goal.ghosts-two_threads-A-Ledger
ghosts-two_threads-A-Ledger g a = record { name = a.blanks.0.0.name; parts = a.blanks.0.0.parts }

abbrev pub ghosts-two_threads-B-Ledger : goal.ghosts-two_threads-B-Ledger
ghosts-two_threads-B-Ledger g a = record { name = a.blanks.0.1.name; parts = a.blanks.0.1.parts }

abbrev pub ghosts-two_threads-C-NodeLedger : goal.ghosts-two_threads-C-NodeLedger
ghosts-two_threads-C-NodeLedger g a = record { schema = a.spec }

abbrev pub ghosts-two_threads-C-Ledger : goal.ghosts-two_threads-C-Ledger
ghosts-two_threads-C-Ledger g a = record { name = a.blanks.1.0.name; parts = a.blanks.1.0.parts }

abbrev pub ghosts-two_threads-D-Ledger : goal.ghosts-two_threads-D-Ledger
ghosts-two_threads-D-Ledger g a = record { name = a.blanks.1.1.name; parts = a.blanks.1.1.parts }
