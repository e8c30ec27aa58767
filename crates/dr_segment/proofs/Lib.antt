mod ColumnLemmas
mod CountingLemmas
mod GatheringLemmas
mod RankingLemmas
mod TableLemmas
mod WritingLemmas
