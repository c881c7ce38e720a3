pub mod ScoreText
