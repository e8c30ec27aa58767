use Rattle.tests_node.proofs.acts.told.Given as goal

abbrev pub ghosts-answers-A-NodeLedger : goal.ghosts-answers-A-NodeLedger
ghosts-answers-A-NodeLedger g a = record { schema = a.spec }

abbrev pub ghosts-answers-A-Ledger : goal.ghosts-answers-A-Ledger
ghosts-answers-A-Ledger g a = record { name = a.blanks.0.name; parts = a.blanks.0.parts }

abbrev pub ghosts-answers-B-Ledger : goal.ghosts-answers-B-Ledger
ghosts-answers-B-Ledger g a = record { name = a.blanks.1.name; parts = a.blanks.1.parts }
