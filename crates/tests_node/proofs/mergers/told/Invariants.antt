use Rattle.tests_node.proofs.mergers.told.Given as goal

abbrev pub ghosts-merged-A-NodeLedger : goal.ghosts-merged-A-NodeLedger
ghosts-merged-A-NodeLedger g a = record { schema = a.spec }

abbrev pub ghosts-merged-A-Ledger : goal.ghosts-merged-A-Ledger
ghosts-merged-A-Ledger g a = record { name = a.blanks.0.0.name; parts = a.blanks.0.0.parts }

abbrev pub ghosts-merged-B-Ledger : goal.ghosts-merged-B-Ledger
ghosts-merged-B-Ledger g a = record { name = a.blanks.0.1.name; parts = a.blanks.0.1.parts }

abbrev pub ghosts-merged-C-NodeLedger : goal.ghosts-merged-C-NodeLedger
ghosts-merged-C-NodeLedger g a = record { schema = a.spec }

abbrev pub ghosts-merged-C-Ledger : goal.ghosts-merged-C-Ledger
ghosts-merged-C-Ledger g a = record { name = a.blanks.1.0.name; parts = a.blanks.1.0.parts }

abbrev pub ghosts-merged-D-Ledger : goal.ghosts-merged-D-Ledger
ghosts-merged-D-Ledger g a = record { name = a.blanks.1.1.name; parts = a.blanks.1.1.parts }
