mod OutputsLaws
mod TokensLaws
