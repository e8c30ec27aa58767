use Rattle.tests_node.proofs.answers.told.Given as goal

abbrev pub ghosts-answered-A-NodeLedger : goal.ghosts-answered-A-NodeLedger
ghosts-answered-A-NodeLedger g a = record { schema = a.spec }

abbrev pub ghosts-answered-A-Ledger : goal.ghosts-answered-A-Ledger
ghosts-answered-A-Ledger g a = record { name = a.blanks.0.0.name; parts = a.blanks.0.0.parts }

abbrev pub ghosts-answered-B-Ledger : goal.ghosts-answered-B-Ledger
ghosts-answered-B-Ledger g a = record { name = a.blanks.0.1.name; parts = a.blanks.0.1.parts }

abbrev pub ghosts-answered-C-NodeLedger : goal.ghosts-answered-C-NodeLedger
ghosts-answered-C-NodeLedger g a = record { schema = a.spec }

abbrev pub ghosts-answered-C-Ledger : goal.ghosts-answered-C-Ledger
ghosts-answered-C-Ledger g a = record { name = a.blanks.1.0.name; parts = a.blanks.1.0.parts }

abbrev pub ghosts-answered-D-Ledger : goal.ghosts-answered-D-Ledger
ghosts-answered-D-Ledger g a = record { name = a.blanks.1.1.name; parts = a.blanks.1.1.parts }
