use Rattle.dr_load.proofs.eight.on_eight_seats.Given as goal

abbrev pub ghosts-of_eight-A-NodeLedger : goal.ghosts-of_eight-A-NodeLedger
ghosts-of_eight-A-NodeLedger g a = record { schema = a.order.spec }

abbrev pub ghosts-of_eight-A-Ledger : goal.ghosts-of_eight-A-Ledger
ghosts-of_eight-A-Ledger g a = record { name = a.seat_0.0.name; parts = a.seat_0.0.parts }

abbrev pub ghosts-of_eight-B-Ledger : goal.ghosts-of_eight-B-Ledger
ghosts-of_eight-B-Ledger g a = record { name = a.seat_0.1.name; parts = a.seat_0.1.parts }

abbrev pub ghosts-of_eight-C-NodeLedger : goal.ghosts-of_eight-C-NodeLedger
ghosts-of_eight-C-NodeLedger g a = record { schema = a.order.spec }

abbrev pub ghosts-of_eight-C-Ledger : goal.ghosts-of_eight-C-Ledger
ghosts-of_eight-C-Ledger g a = record { name = a.seat_1.0.name; parts = a.seat_1.0.parts }

abbrev pub ghosts-of_eight-D-Ledger : goal.ghosts-of_eight-D-Ledger
ghosts-of_eight-D-Ledger g a = record { name = a.seat_1.1.name; parts = a.seat_1.1.parts }

abbrev pub ghosts-of_eight-E-NodeLedger : goal.ghosts-of_eight-E-NodeLedger
ghosts-of_eight-E-NodeLedger g a = record { schema = a.order.spec }

abbrev pub ghosts-of_eight-E-Ledger : goal.ghosts-of_eight-E-Ledger
ghosts-of_eight-E-Ledger g a = record { name = a.seat_2.0.name; parts = a.seat_2.0.parts }

abbrev pub ghosts-of_eight-F-Ledger : goal.ghosts-of_eight-F-Ledger
ghosts-of_eight-F-Ledger g a = record { name = a.seat_2.1.name; parts = a.seat_2.1.parts }

abbrev pub ghosts-of_eight-G-NodeLedger : goal.ghosts-of_eight-G-NodeLedger
ghosts-of_eight-G-NodeLedger g a = record { schema = a.order.spec }

abbrev pub ghosts-of_eight-G-Ledger : goal.ghosts-of_eight-G-Ledger
ghosts-of_eight-G-Ledger g a = record { name = a.seat_3.0.name; parts = a.seat_3.0.parts }

abbrev pub ghosts-of_eight-H-Ledger : goal.ghosts-of_eight-H-Ledger
ghosts-of_eight-H-Ledger g a = record { name = a.seat_3.1.name; parts = a.seat_3.1.parts }

abbrev pub ghosts-of_eight-I-NodeLedger : goal.ghosts-of_eight-I-NodeLedger
ghosts-of_eight-I-NodeLedger g a = record { schema = a.order.spec }

abbrev pub ghosts-of_eight-I-Ledger : goal.ghosts-of_eight-I-Ledger
ghosts-of_eight-I-Ledger g a = record { name = a.seat_4.0.name; parts = a.seat_4.0.parts }

abbrev pub ghosts-of_eight-J-Ledger : goal.ghosts-of_eight-J-Ledger
ghosts-of_eight-J-Ledger g a = record { name = a.seat_4.1.name; parts = a.seat_4.1.parts }

abbrev pub ghosts-of_eight-K-NodeLedger : goal.ghosts-of_eight-K-NodeLedger
ghosts-of_eight-K-NodeLedger g a = record { schema = a.order.spec }

abbrev pub ghosts-of_eight-K-Ledger : goal.ghosts-of_eight-K-Ledger
ghosts-of_eight-K-Ledger g a = record { name = a.seat_5.0.name; parts = a.seat_5.0.parts }

abbrev pub ghosts-of_eight-L-Ledger : goal.ghosts-of_eight-L-Ledger
ghosts-of_eight-L-Ledger g a = record { name = a.seat_5.1.name; parts = a.seat_5.1.parts }

abbrev pub ghosts-of_eight-M-NodeLedger : goal.ghosts-of_eight-M-NodeLedger
ghosts-of_eight-M-NodeLedger g a = record { schema = a.order.spec }

abbrev pub ghosts-of_eight-M-Ledger : goal.ghosts-of_eight-M-Ledger
ghosts-of_eight-M-Ledger g a = record { name = a.seat_6.0.name; parts = a.seat_6.0.parts }

abbrev pub ghosts-of_eight-N2-Ledger : goal.ghosts-of_eight-N2-Ledger
ghosts-of_eight-N2-Ledger g a = record { name = a.seat_6.1.name; parts = a.seat_6.1.parts }

abbrev pub ghosts-of_eight-O-NodeLedger : goal.ghosts-of_eight-O-NodeLedger
ghosts-of_eight-O-NodeLedger g a = record { schema = a.order.spec }

abbrev pub ghosts-of_eight-O-Ledger : goal.ghosts-of_eight-O-Ledger
ghosts-of_eight-O-Ledger g a = record { name = a.seat_7.0.name; parts = a.seat_7.0.parts }

abbrev pub ghosts-of_eight-P-Ledger : goal.ghosts-of_eight-P-Ledger
ghosts-of_eight-P-Ledger g a = record { name = a.seat_7.1.name; parts = a.seat_7.1.parts }
