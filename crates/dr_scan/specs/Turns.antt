-- Segments that are written one after another. No public contract cites this file.
use Rattle.std.specs.Prelude.{◌≡◌, List, ◌++◌}
use Rattle.json.specs.Written.{Written}
use Rattle.dr_ask.specs.declared.scan.Scan.{Scan}
use Rattle.dr_ask.specs.declared.scan_column.ScanColumn.{ScanColumn}
use Rattle.dr_ask.specs.Asked.{Asked}
use Rattle.dr_scan.specs.declared.segment.Segment.{Segment}
use Rattle.dr_scan.specs.declared.window.Window.{Window}
use Rattle.dr_scan.specs.Written.{segments_tokens}

-- what was written of segments, and what is then to be written of any behind them, is what was to be written of all
abbrev pub GoesOn : Asked → Scan → List ScanColumn → Written → Written → Window → Window → List Segment → Type 0
GoesOn q s columns old new before after segments =
    (new.before ≡ old.before)
    × ((rest : List Segment) → new.tokens ++ segments_tokens q s columns after rest ≡ old.tokens ++ segments_tokens q s columns before (segments ++ rest))
